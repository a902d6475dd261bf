use Rattle.lc_script_laws.proofs.CertificateLaws.{levels_accepted, scan_accepted, no_rows}
use Rattle.lc_script_laws.proofs.laws.scripts_print_accepted_certificates.Goals as goal

pub returns : goal.returns
returns _ = record { levels = levels_accepted; scan = scan_accepted; none = no_rows }
