-- THE TABLE AND THE CLAIM ON IT: P1 to P12, runs, reports, the short cuts, each operation, and the given machines of crate theory_machine, at binary64.
use Rattle.std.specs.Prelude.{◌≡◌, List, ◌++◌, map}
use Rattle.theory_machine.specs.Binary64.{binary64}
use Rattle.theory_machine.specs.GivenMachines.{given_table, issue_table}
use Rattle.theory_sessions.specs.Numbers.{n1·5}
use Rattle.theory_sessions.specs.Session.{Row, given, issued, found, wanted}
use Rattle.theory_sessions.specs.Sessions.{sessions}
use Rattle.theory_sessions.specs.Runs.{runs}
use Rattle.theory_sessions.specs.ShortCuts.{short_cuts}
use Rattle.theory_sessions.specs.Operations.{operations}
use Rattle.theory_sessions.specs.Files.{files}
use Rattle.theory_sessions.specs.Reports.{reports}

abbrev pub table : List Row
table =
    sessions ++ runs ++ files ++ reports ++ short_cuts ++ operations ++ map given (given_table binary64 n1·5) ++ map issued (issue_table binary64 n1·5)

abbrev pub Claim : Type 0
Claim = map found table ≡ map wanted table
