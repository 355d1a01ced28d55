-- Document 01, Register map and Queue: the queue's fields by their places, and what they mean in bits and clocks.
use Rattle.std.specs.Prelude.{◌≡◌, Bool, true, false, ℕ, ◌+◌, ◌*◌, ◌^◌, ◌<◌}
use Rattle.steps.specs.Bits.{digit}
use Rattle.qspi.specs.model.Fields.{mstr, bits_field, cpol, cpha, spbr, spe, dsckl, dtl, spifie, wren, wrto, endqp, newqp, hmie, halt, cont, bitse, dt, dsck, pcs_field, bits_of, pre_delay, delay_after}
use Rattle.qspi.specs.model.Outputs.{enabled}
use Rattle.qspi.specs.claims.Run.{run, spbr_in}
use Rattle.qspi.specs.claims.Laws.{Calm}
use Rattle.qspi.specs.declared.Qspi.{Qspi}
use Rattle.qspi.specs.declared.Pins.{Pins}

-- A field of so many bits from a place up, whatever stands above and below it; and one of a single bit.
abbrev pub FieldAt : ℕ → ℕ → (ℕ → ℕ) → Type 0
FieldAt place width field =
    (above value below : ℕ) → value < 2 ^ width → below < 2 ^ place →
    field ((above * 2 ^ width + value) * 2 ^ place + below) ≡ value

abbrev pub BitAt : ℕ → (ℕ → Bool) → Type 0
BitAt place field =
    (above : ℕ) (value : Bool) (below : ℕ) → below < 2 ^ place → field ((above * 2 + digit value) * 2 ^ place + below) ≡ value

-- The map's rows.
pub record Placed : Type 0 where
  pub MSTR : BitAt 15 mstr
  pub BITS : FieldAt 10 4 bits_field
  pub CPOL : BitAt 9 cpol
  pub CPHA : BitAt 8 cpha
  pub SPBR : FieldAt 0 8 spbr
  pub SPE : BitAt 15 spe
  pub DSCKL : FieldAt 8 7 dsckl
  pub DTL : FieldAt 0 8 dtl
  pub SPIFIE : BitAt 15 spifie
  pub WREN : BitAt 14 wren
  pub WRTO : BitAt 13 wrto
  pub ENDQP : FieldAt 8 4 endqp
  pub NEWQP : FieldAt 0 4 newqp
  pub HMIE : BitAt 1 hmie
  pub HALT : BitAt 0 halt
  pub CONT : BitAt 7 cont
  pub BITSE : BitAt 6 bitse
  pub DT : BitAt 5 dt
  pub DSCK : BitAt 4 dsck
  pub Pcs : FieldAt 0 4 pcs_field

-- Bits n: 8, or BITS if BITSE (0 means 16). Pre-delay: SPBR clocks, or DSCKL (0 means 128) if DSCK. The delay after edge 2n: 17 clocks,
-- or 32 x DTL (0 means 8,192) if DT.
pub record Meant (spcr0 spcr1 command : ℕ) : Type 0 where
  pub bits : bitse command ≡ false → bits_of spcr0 command ≡ 8
  pub bits_set : bitse command ≡ true → 0 < bits_field spcr0 → bits_of spcr0 command ≡ bits_field spcr0
  pub bits_zero : bitse command ≡ true → bits_field spcr0 ≡ 0 → bits_of spcr0 command ≡ 16
  pub pre : dsck command ≡ false → pre_delay spcr0 spcr1 command ≡ spbr spcr0
  pub pre_set : dsck command ≡ true → 0 < dsckl spcr1 → pre_delay spcr0 spcr1 command ≡ dsckl spcr1
  pub pre_zero : dsck command ≡ true → dsckl spcr1 ≡ 0 → pre_delay spcr0 spcr1 command ≡ 128
  pub delay : dt command ≡ false → delay_after spcr1 command ≡ 17
  pub delay_set : dt command ≡ true → 0 < dtl spcr1 → delay_after spcr1 command ≡ 32 * dtl spcr1
  pub delay_zero : dt command ≡ true → dtl spcr1 ≡ 0 → delay_after spcr1 command ≡ 8192

-- SPBR 0 or 1: no entry starts, for any number of clocks.
abbrev pub NoneStarts : Type 0
NoneStarts =
    (q : Qspi) (pins : ℕ → Pins) → enabled q ≡ true → q.entry.playing ≡ false → q.entry.delaying ≡ false → spbr_in q < 2 →
    Calm pins → (c : ℕ) → run pins c q ≡ q

pub record FieldClauses : Type 0 where
  pub placed : Placed
  pub meant : (spcr0 spcr1 command : ℕ) → Meant spcr0 spcr1 command
  pub none_starts : NoneStarts
