-- Document 01, Seven refusals: what an access touches. A byte is one byte of a word, a word both, a long two words in address order.
use Rattle.std.specs.Prelude.{Bool, cond, not, ◌&&◌, ◌||◌, ℕ, ◌+◌, ◌*◌, ◌/◌, ◌%◌, eqb, ltb}
use Rattle.qsm.specs.model.Map.{decode, mapped, restricted}

abbrev pub halves : ℕ → ℕ
halves width = cond (eqb width 4) 2 1

abbrev pub upper_lane : ℕ → ℕ → Bool
upper_lane width offset = not (eqb width 1) || eqb (offset % 2) 0

abbrev pub lower_lane : ℕ → ℕ → Bool
lower_lane width offset = not (eqb width 1) || eqb (offset % 2) 1

-- Every byte touched is in the map.
unfoldable pub in_map : ℕ → ℕ → Bool
in_map width offset = mapped (decode offset) && (not (eqb width 4) || mapped (decode (offset + 2)))

-- A byte of QSMCR, QILR or QIVR is touched.
unfoldable pub is_restricted : ℕ → ℕ → Bool
is_restricted width offset = restricted (decode offset) || (eqb width 4 && restricted (decode (offset + 2)))

-- An access touches one of n bytes from a place on.
abbrev pub touches : ℕ → ℕ → ℕ → ℕ → Bool
touches first n width offset = ltb offset (first + n) && ltb first (offset + width)

-- What a read gives of the words that it read: a byte, or all of them.
abbrev pub lane : ℕ → Bool → ℕ → ℕ
lane width upper words = cond (eqb width 1) (cond upper (words / 256 % 256) (words % 256)) words

-- A value to write, its first word uppermost: a byte stands in both bytes of its word, and goes to the one that is touched.
abbrev pub lined : ℕ → ℕ → ℕ
lined width value =
    cond (eqb width 1) (value % 256 * 0x01010000) (cond (eqb width 2) (value % 0x10000 * 0x10000) value)
