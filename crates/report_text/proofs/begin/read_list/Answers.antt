use Rattle.report_text.proofs.Beginning.{list_taken}
use Rattle.report_text.proofs.begin.read_list.Goals as goal

pub returns : goal.returns
returns c = list_taken _ c.in_ok-bytes.ensures _ c.requires c.in_ok-list.ensures.0 c.in_ok-list.ensures.1
