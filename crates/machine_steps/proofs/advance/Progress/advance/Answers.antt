use mathlib.Core.Path.{◌≡◌, refl, ap, ◌∙◌}
use native.Mathlib.Omega.{arith}
use Rattle.std.specs.Prelude.{Ok}
use Rattle.machine_parts.specs.View.{released_by}
use Rattle.machine_steps.specs.Advance.{view_progress}
use Rattle.machine_steps.proofs.Advancing.{not_begun_lem, never, few, has_room, mapped, at_refusal, at_end, at_release}
use Rattle.machine_steps.proofs.advance.Progress.advance.Goals as goal
use Rattle.machine_steps.proofs.advance.Progress.advance.Goals.{then-not-self-via-then-not-self, then-not-self-via-else-not-self+then-self}

pub returns-then-not-self : goal.returns-then-not-self
returns-then-not-self c =
    let a = c.args in
    let p = view_progress a.self.now in
    elim c.then-not-self.branch [
      | then-not-self-via-then-not-self w ↦ not_begun_lem p a.words.now a.operands.now a.results.now a.schedule.now a.room w.if-not-self.true refl
      | then-not-self-via-else-not-self+then-self w ↦
          never p a.words.now a.operands.now a.results.now a.schedule.now a.room w.if-not-self.false w.if-self.true refl
    ]

pub overflow_add-self : goal.overflow_add-self
overflow_add-self c =
    let a = c.args in
    let few-steps =
    few (view_progress a.self.now) a.words.now a.operands.now a.results.now a.schedule.now a.room c.if-not-self.false c.if-self.false
    _ c.take_codes-taken.ensures c.write_released.ensures in
    omega (arith, few-steps, c.if-self.false, c.well_formed)

pub overflow_add-self-in-Ok-Some : goal.overflow_add-self-in-Ok-Some
overflow_add-self-in-Ok-Some c =
    let a = c.args in
    let one_more =
    has_room (view_progress a.self.now) a.words.now a.operands.now a.results.now a.schedule.now a.room c.if-not-self.false c.if-self.false
    _ c.take_codes-taken.ensures c.write_released.ensures (ap released_by (c.in-Ok-Some.is ∙ ap Ok (rw c.in-Ok-Some.is at c.in-Ok-Some.field-0-is))) in
    omega (arith, one_more, c.ranges.room.fits)

pub returns-in-Err : goal.returns-in-Err
returns-in-Err c =
    let a = c.args in
    rw (rw c.in-Err.is at c.map-self.ensures.cases)
    (at_refusal a.self.now a.words.now a.operands.now a.results.now a.schedule.now a.room c.if-not-self.false c.if-self.false
    c.take_codes-taken.result c.take_codes-taken.ensures c.write_released.ensures _ c.in-Err.is)

pub returns-in-Ok-None : goal.returns-in-Ok-None
returns-in-Ok-None c =
    let a = c.args in
    let is = c.in-Ok-None.is ∙ ap Ok (rw c.in-Ok-None.is at c.in-Ok-None.field-0-is) in
    let map : c.map-self.result ≡ Ok tt = mapped _ _ (rw is at c.map-self.ensures.cases) in
    rw map
    (at_end a.self.now a.words.now a.operands.now a.results.now a.schedule.now a.room c.if-not-self.false c.if-self.false
    c.take_codes-taken.result c.take_codes-taken.ensures c.write_released.ensures is)

pub returns-in-Ok-Some : goal.returns-in-Ok-Some
returns-in-Ok-Some c =
    let a = c.args in
    let is = c.in-Ok-Some.is ∙ ap Ok (rw c.in-Ok-Some.is at c.in-Ok-Some.field-0-is) in
    let map : c.map-self.result ≡ Ok tt = mapped _ _ (rw is at c.map-self.ensures.cases) in
    rw map
    (at_release a.self.now a.words.now a.operands.now a.results.now a.schedule.now a.room c.if-not-self.false c.if-self.false
    c.take_codes-taken.result c.take_codes-taken.ensures c.write_released.ensures _ is)
