-- Tags and the slots they name.
use mathlib.Core.Path.{◌≡◌, refl, sym, ap, ◌∙◌}
use mathlib.Core.Logic.{◌≢◌}
use Prim.Native.Nat.{ℕ, ◌<◌}
use native.Mathlib.Omega.{arith}
use Rattle.theory_machine.specs.Rows.{between}
use Rattle.theory_machine.specs.Tags.{first_buffer, last_buffer, first_station, last_station, buffer_count, station_count, buffer_tag, station_tag, Slot, neither, buffer, station, slot_of}
use Rattle.theory_machine.proofs.Rows.{cond_cases, inside, above, within}

-- TAGS

pub slot_of_buffer : (i : ℕ) → i < buffer_count → slot_of (buffer_tag i) ≡ buffer i
unfolding slot_of
slot_of_buffer i h = rw (inside first_buffer last_buffer (buffer_tag i) (omega arith) (omega arith)) (ap {B = Slot} buffer (omega arith))

pub slot_of_station : (i : ℕ) → i < station_count → slot_of (station_tag i) ≡ station i
unfolding slot_of
slot_of_station i h =
    rw (above first_buffer last_buffer (station_tag i) (omega arith), inside first_station last_station (station_tag i) (omega arith) (omega arith)) (ap {B = Slot} station (omega arith))

pub data SlotView (t : ℕ) : Slot → Type 0 where
  is-neither : SlotView t neither
  is-buffer : {i : ℕ} → i < buffer_count → t ≡ buffer_tag i → SlotView t (buffer i)
  is-station : {i : ℕ} → i < station_count → t ≡ station_tag i → SlotView t (station i)

pub slot_view : (t : ℕ) → SlotView t (slot_of t)
unfolding slot_of
slot_view t =
    cond_cases (SlotView t) (between first_buffer last_buffer t)
    (λ e. let h = within first_buffer last_buffer t e in is-buffer (omega (arith, h.0, h.1)) (omega (arith, h.0, h.1)))
    (λ _. cond_cases (SlotView t) (between first_station last_station t)
    (λ e. let h = within first_station last_station t e in is-station (omega (arith, h.0, h.1)) (omega (arith, h.0, h.1))) (λ _. is-neither))

-- a tag that is not slot s's names another slot
abbrev pub tag_of : Slot → ℕ
tag_of neither = 0
tag_of (buffer i) = buffer_tag i
tag_of (station i) = station_tag i

view_tag : {t : ℕ} {s : Slot} → SlotView t s → s ≢ neither → t ≡ tag_of s
view_tag is-neither h = absurd (h refl)
view_tag (is-buffer b e) h = e
view_tag (is-station b e) h = e

pub other_slot : (t : ℕ) (s : Slot) → s ≢ neither → t ≢ tag_of s → slot_of t ≢ s
other_slot t s n h e = h (view_tag (slot_view t) (λ z. n (sym e ∙ z)) ∙ ap tag_of e)
