use Rattle.words.proofs.Operands.{judged_for}
use Rattle.words.proofs.held_refusal.Goals as goal

pub returns-then-limit-at : goal.returns-then-limit-at
returns-then-limit-at c = (judged_for c.args.operand c.args.operation c.args.area c.chosen-limit.ensures c.chosen-refusal.ensures).above c.if-limit-at.true

pub returns-then-at-ge-CELL_LIMIT : goal.returns-then-at-ge-CELL_LIMIT
returns-then-at-ge-CELL_LIMIT c = (judged_for c.args.operand c.args.operation c.args.area c.chosen-limit.ensures c.chosen-refusal.ensures).beyond c.if-limit-at.false c.if-at-ge-CELL_LIMIT.true

pub returns-then-at-odd-ne0 : goal.returns-then-at-odd-ne0
returns-then-at-odd-ne0 c = (judged_for c.args.operand c.args.operation c.args.area c.chosen-limit.ensures c.chosen-refusal.ensures).uneven c.if-at-odd-ne0.true

pub returns : goal.returns
returns c = (judged_for c.args.operand c.args.operation c.args.area c.chosen-limit.ensures c.chosen-refusal.ensures).good c.if-limit-at.false c.if-at-ge-CELL_LIMIT.false c.if-at-odd-ne0.false
