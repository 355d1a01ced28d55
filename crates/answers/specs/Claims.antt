-- All that is shown of the bytes of an answer: its fields cover them, in order and without overlap, and those of a kind are its length.
use Rattle.std.specs.Prelude.{◌≡◌, map, ℕ, ◌+◌, ◌^◌, ◌≤◌, ◌<◌, length, take}
use Rattle.answers.specs.Answer.{clocked_length, length_of, fields, stride, stride_of, bytes_of}
use Rattle.answers.specs.Field.{in_their_order, place_of, start_of, size_of, field_at, field_number}
use Rattle.answers.specs.declared.Field.{Field}

-- The byte at a place is one of the field's.
pub record Within (f : Field) (i : ℕ) : Type 0 where
  pub from : start_of f ≤ i
  pub to : i < start_of f + size_of f

-- Each byte is one of a field's, and of no other's.
abbrev pub Covering : Type 0
Covering = (i : ℕ) → i < clocked_length → Within (field_at i) i

abbrev pub Apart : Type 0
Apart = (f : Field) (i : ℕ) → Within f i → field_at i ≡ f

-- The names and the numbers of bytes are in one order; a field begins where those before it end, and counts twice as much as the one before it.
pub record InOrder : Type 0 where
  pub sizes : map size_of in_their_order ≡ fields
  pub starts : (f : Field) → start_of f ≡ stride (take (place_of f) fields)
  pub numbers : (f : Field) → field_number f ≡ 2 ^ place_of f

-- The fields of a kind are its length.
abbrev pub Strides : Type 0
Strides = (kind : ℕ) → stride_of kind ≡ length_of kind

abbrev pub Long : Type 0
Long = (refusal value levels mask level vector clock : ℕ) → length (bytes_of refusal value levels mask level vector clock) ≡ clocked_length

pub record Claims : Type 0 where
  pub covering : Covering
  pub apart : Apart
  pub in_order : InOrder
  pub strides : Strides
  pub long : Long
