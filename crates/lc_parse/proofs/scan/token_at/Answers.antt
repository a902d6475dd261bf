use Rattle.std.proofs.Common.{◌≡◌, true, false, Some, ap, ◌∙◌}
use Rattle.std.specs.List.{prefix_len}
use Rattle.lc_grammar.specs.declared.TokenKind.TheVariants.{Name, Number}
use Rattle.lc_grammar.specs.Token.{is_letter, is_digit, is_name_byte}
use Rattle.lc_parse.proofs.Scanning.{name_cut, number_cut, sign_cut}
use Rattle.lc_parse.proofs.scan.token_at.Goals as goal

pub returns-then-is_letter : goal.returns-then-is_letter
returns-then-is_letter c =
    let letter : is_letter c.args.first ≡ true = cc in
    ap (λ n. Some (record { kind = Name; bytes = n })) (c.name_len.ensures ∙ ap (prefix_len is_name_byte) c.requires) ∙ name_cut c.args.first c.args.rest.now letter

pub returns-then-is_digit : goal.returns-then-is_digit
returns-then-is_digit c =
    let letter : is_letter c.args.first ≡ false = cc in
    let digit : is_digit c.args.first ≡ true = cc in
    ap (λ n. Some (record { kind = Number; bytes = n })) (c.digits_len.ensures ∙ ap (prefix_len is_digit) c.requires) ∙ number_cut c.args.first c.args.rest.now letter digit

pub returns-else-is_digit : goal.returns-else-is_digit
returns-else-is_digit c =
    let letter : is_letter c.args.first ≡ false = cc in
    let digit : is_digit c.args.first ≡ false = cc in
    let cut = sign_cut c.args.first c.args.rest.now letter digit in
    cc
