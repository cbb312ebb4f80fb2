-- A row that is given to, slot by slot.
use Rattle.std.proofs.Common.{◌≡◌, ℕ, ◌+◌, ◌<◌, List, ◌++◌, map, length, get_or, set, take, drop, ap, ◌∙◌}
use Rattle.std.proofs.lemmas.List.Edits.{map_over_more}
use Rattle.machine_parts.proofs.Seen.{any_default}

-- one slot more of row xs, of which i slots have become what f makes of them
pub slot_more : {X : Type 0} (f : X → X) (xs ys : List X) (i : ℕ) (d : X) → i < length xs → i < length ys → ys ≡ map f (take i xs) ++ drop i xs
    → (x : X) → x ≡ f (get_or ys i d) → set ys i x ≡ map f (take (i + 1) xs) ++ drop (i + 1) xs
slot_more f xs ys i d h l e x q =
    ap (set ys i) q ∙ map_over_more f xs ys i (get_or ys i d) h e (any_default ys i d (get_or ys i d) l)
