-- Rows with room for what they are to hold, and rows without.
use mathlib.Core.Path.{◌≡◌, sym, ap, ◌∙◌}
use mathlib.Core.Bool.{Bool, true, false, ◌&&◌, true≢false}
use Rattle.wethertide.specs.Entries.{ByRoom}

pub not_first : {a : Bool} (b : Bool) → a ≡ false → a && b ≡ false
not_first b e = ap (λ (x : Bool). x && b) e

pub both_tests : {a b x y : Bool} → a ≡ x → b ≡ y → a && b ≡ x && y
both_tests e f = (λ i. e i && f i)

module _ {room : Bool} {Roomy Short : Type 0} where
  pub is-short : room ≡ false → Short → ByRoom room Roomy Short
  is-short e s = record { roomy = λ t. absurd (true≢false (sym t ∙ e)); short = λ f. s }

  pub is-roomy : room ≡ true → Roomy → ByRoom room Roomy Short
  is-roomy e r = record { roomy = λ t. r; short = λ f. absurd (true≢false (sym e ∙ f)) }

  -- what follows of two results with room, and of two without, follows
  pub by_room : {Roomy' Short' R : Type 0} → (Roomy → Roomy' → R) → (Short → Short' → R) → ByRoom room Roomy Short → ByRoom room Roomy' Short' → R
  by_room {Roomy'} {Short'} {R} f g p q = go room (λ i. room)
    where
      go : (b : Bool) → room ≡ b → R
      go true e = f (p.roomy e) (q.roomy e)
      go false e = g (p.short e) (q.short e)
