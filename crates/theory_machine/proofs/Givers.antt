-- The giver of each tag, after a slot changes and after a grant.
use mathlib.Core.Path.{◌≡◌, refl, ap, ◌∙◌}
use mathlib.Core.Bool.{true}
use mathlib.Core.Logic.{◌≢◌}
use mathlib.Core.List.{List, map}
use Prim.Native.Nat.{ℕ, ◌<◌}
use native.Mathlib.Omega.{arith}
use lib.ListN.{length, get_or, set, get_or-map}
use lib.Seq.{get_or-set_same}
use Rattle.theory_machine.specs.Tags.{buffer_count, station_count, buffer_tag, station_tag, Slot, neither, buffer, station, slot_of}
use Rattle.theory_machine.specs.Machine.{Buffer, free_buffer, Station, free_station, holding, done}
use Rattle.theory_machine.specs.GoodOrder.{Giver, nobody, is_some, buffer_giver, station_giver, giver_in, giver}
use Rattle.theory_machine.specs.Steps.{give_station}
use Rattle.theory_machine.proofs.Rows.{absurd_bool, set_all}
use Rattle.theory_machine.proofs.Tags.{slot_of_buffer, slot_of_station, other_slot}

-- what was live gives as before
abbrev pub Grows : (G H : ℕ → Giver) → Type 0
Grows G H = (t : ℕ) → is_some (G t) ≡ true → H t ≡ G t

pub grows_on : {G H K : ℕ → Giver} → Grows G H → Grows H K → Grows G K
grows_on f g t e = g t (rw (f t e) e) ∙ f t e

-- the same but for one tag
abbrev pub SameBut : ℕ → (G H : ℕ → Giver) → Type 0
SameBut t G H = (u : ℕ) → u ≢ t → H u ≡ G u

module _ {A : Type 0} (bs : List (Buffer A)) (ss : List (Station A)) where
  -- a relation between the old giver and the new that holds where the row changed, and of a giver and itself, holds at every tag
  pub set_buffer : (R : Slot → Giver → Giver → Type 0) → ((s : Slot) (g : Giver) → R s g g) → (i : ℕ) (b : Buffer A)
      → R (buffer i) (buffer_giver (get_or bs i free_buffer)) (buffer_giver b) → (t : ℕ) → R (slot_of t) (giver bs ss t) (giver (set bs i b) ss t)
  unfolding giver
  set_buffer R r i b h t = go (slot_of t)
    where
      go : (s : Slot) → R s (giver_in bs ss s) (giver_in (set bs i b) ss s)
      go neither = r neither nobody
      go (buffer j) =
          set_all (λ k x. R (buffer k) (buffer_giver (get_or bs k free_buffer)) (buffer_giver x)) free_buffer bs i b
          (λ k. r (buffer k) (buffer_giver (get_or bs k free_buffer))) h j
      go (station j) = r (station j) (station_giver (get_or ss j free_station))

  pub set_station : (R : Slot → Giver → Giver → Type 0) → ((s : Slot) (g : Giver) → R s g g) → (i : ℕ) (b : Station A)
      → R (station i) (station_giver (get_or ss i free_station)) (station_giver b) → (t : ℕ) → R (slot_of t) (giver bs ss t) (giver bs (set ss i b) t)
  unfolding giver
  set_station R r i b h t = go (slot_of t)
    where
      go : (s : Slot) → R s (giver_in bs ss s) (giver_in bs (set ss i b) s)
      go neither = r neither nobody
      go (station j) =
          set_all (λ k x. R (station k) (station_giver (get_or ss k free_station)) (station_giver x)) free_station ss i b
          (λ k. r (station k) (station_giver (get_or ss k free_station))) h j
      go (buffer j) = r (buffer j) (buffer_giver (get_or bs j free_buffer))

  -- a slot that gives as it did
  pub same_buffer : (i : ℕ) (b : Buffer A) → buffer_giver b ≡ buffer_giver (get_or bs i free_buffer) → Grows (giver bs ss) (giver (set bs i b) ss)
  same_buffer i b e t _ = set_buffer (λ s g h. h ≡ g) (λ s g. refl) i b e t

  pub same_station : (i : ℕ) (b : Station A) → station_giver b ≡ station_giver (get_or ss i free_station) → Grows (giver bs ss) (giver bs (set ss i b))
  same_station i b e t _ = set_station (λ s g h. h ≡ g) (λ s g. refl) i b e t

  -- a free slot that is taken
  pub take_buffer : (i : ℕ) (b : Buffer A) → get_or bs i free_buffer ≡ free_buffer → Grows (giver bs ss) (giver (set bs i b) ss)
  take_buffer i b e = set_buffer (λ s g h. is_some g ≡ true → h ≡ g) (λ s g _. refl) i b (λ k. absurd_bool (rw e at k) refl)

  pub take_station : (i : ℕ) (b : Station A) → get_or ss i free_station ≡ free_station → Grows (giver bs ss) (giver bs (set ss i b))
  take_station i b e = set_station (λ s g h. is_some g ≡ true → h ≡ g) (λ s g _. refl) i b (λ k. absurd_bool (rw e at k) refl)

  pub new_buffer : (i : ℕ) (b : Buffer A) → length bs ≡ buffer_count → i < buffer_count → giver (set bs i b) ss (buffer_tag i) ≡ buffer_giver b
  unfolding giver
  new_buffer i b n h = rw (slot_of_buffer i h) (ap buffer_giver (get_or-set_same bs i b free_buffer (omega arith)))

  pub new_station : (i : ℕ) (b : Station A) → length ss ≡ station_count → i < station_count → giver bs (set ss i b) (station_tag i) ≡ station_giver b
  unfolding giver
  new_station i b n h = rw (slot_of_station i h) (ap station_giver (get_or-set_same ss i b free_station (omega arith)))

  -- a slot whose tag alone changes
  pub but_buffer : (i : ℕ) (b : Buffer A) → SameBut (buffer_tag i) (giver bs ss) (giver (set bs i b) ss)
  but_buffer i b u d =
      set_buffer (λ s g k. s ≢ buffer i → k ≡ g) (λ s g _. refl) i b (λ z. absurd (z refl)) u
      (other_slot u (buffer i) (λ z. let w : ◌≡◌ {A = ℕ} 0 1 = cc in omega arith) d)

  pub but_station : (i : ℕ) (b : Station A) → SameBut (station_tag i) (giver bs ss) (giver bs (set ss i b))
  but_station i b u d =
      set_station (λ s g k. s ≢ station i → k ≡ g) (λ s g _. refl) i b (λ z. absurd (z refl)) u
      (other_slot u (station i) (λ z. let w : ◌≡◌ {A = ℕ} 0 1 = cc in omega arith) d)

  -- a grant leaves every giver
  pub giver-given : (t : ℕ) (v : A) (u : ℕ) → giver bs (map (give_station t v) ss) u ≡ giver bs ss u
  unfolding giver
  giver-given t v u = go (slot_of u)
    where
      one : (s : Station A) → station_giver (give_station t v s) ≡ station_giver s
      one free_station = refl
      one (holding p o x y) = refl
      one (done p r) = refl

      go : (s : Slot) → giver_in bs (map (give_station t v) ss) s ≡ giver_in bs ss s
      go neither = refl
      go (buffer j) = refl
      go (station j) = ap station_giver (get_or-map (give_station t v) ss j free_station) ∙ one (get_or ss j free_station)

  -- the giver of a slot's tag is that slot's
  pub giver_buffer : (i : ℕ) → i < buffer_count → giver bs ss (buffer_tag i) ≡ buffer_giver (get_or bs i free_buffer)
  unfolding giver
  giver_buffer i h = rw (slot_of_buffer i h)

  pub giver_station : (i : ℕ) → i < station_count → giver bs ss (station_tag i) ≡ station_giver (get_or ss i free_station)
  unfolding giver
  giver_station i h = rw (slot_of_station i h)
