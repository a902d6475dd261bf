mod AskedLaws
mod NoBytes
mod TextLaws
mod EarlyEnds
mod ScriptEnds
mod ScriptSessions
mod SummarySessions
mod CheckSessions
