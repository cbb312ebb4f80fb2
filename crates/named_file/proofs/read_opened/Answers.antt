use Rattle.std.proofs.Common.{rules, ◌≡◌, ℕ, ◌+◌, ◌-◌, ◌≤◌, List, ◌++◌, length, take, sym, ap, ◌∙◌, subst, le_refl, length-take-le}
use Rattle.std.proofs.lemmas.List.{take-append-le}
use Rattle.std.proofs.lemmas.Slice.{take-put_mid_below}
use Rattle.std.proofs.Math.Seq.{take-append-add}
use Rattle.std.proofs.KnownBytes.{Consumes-trans, Consumes-kept}
use Rattle.std.specs.Io.KnownBytes.{Consumes}
use borrow.Rule.Slice.PartMut.{put_mid, post_of}
use Rattle.named_file.proofs.read_opened.Goals as goal
use Rattle.named_file.proofs.read_opened.Goals.{in-Ok, in-Err+else-fails}

-- what a read put behind the first a elements stands behind them
take-put_mid_more : (a k n : ℕ) (xs ys : List ℕ) → a ≤ length xs → n ≤ length ys → take a xs ++ take n ys ≡ take (a + n) (put_mid a k xs ys)
take-put_mid_more a k n xs ys within fits =
    let front = take a xs in
    let after = post_of a k xs in
    let size : length front ≡ a = length-take-le a xs within in
    sym (ap (λ m. take (m + n) (put_mid a k xs ys)) (sym size) ∙ take-append-add front (ys ++ after) n ∙ ap (λ l. front ++ l) (take-append-le n ys after fits))

pub loop-preserved : goal.loop-preserved
loop-preserved g c =
    elim c.match-read.branch [
      | in-Ok w ↦ (search rules, subst (Consumes _ _) (take-put_mid_more _ _ _ _ _ c.loop.invariant.0 w.in-Ok.ensures.bound.0 ∙ ap (λ m. take m (put_mid c.loop.size (length c.loop.bytes - c.loop.size) c.loop.bytes c.read.new.buf)) (sym w.size-is)) (Consumes-trans _ _ _ _ _ c.loop.invariant.1 w.in-Ok.ensures.bytes.0))
      | in-Err+else-fails w ↦ (search rules, subst (Consumes _ _) (sym (take-put_mid_below _ _ _ _ _ (le_refl _) c.loop.invariant.0) ∙ ap (λ m. take m (put_mid c.loop.size (length c.loop.bytes - c.loop.size) c.loop.bytes c.read.new.buf)) (sym w.size-is)) (Consumes-kept _ _ _ _ c.loop.invariant.1 w.in-Err.ensures.bytes))
    ]
