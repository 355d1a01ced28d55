-- Pin 7 while the transmitter drives it, and TXD while it doesn't.
use mathlib.Core.Path.{◌≡◌, refl, ap, sym, ◌∙◌}
use mathlib.Core.Bool.{Bool, true, false, cond, not, ◌&&◌, ◌||◌, true≢false, false≢true}
use Prim.Native.Nat.{ℕ, ◌-◌, ◌*◌, ◌/◌, ◌%◌}
use native.Mathlib.Omega.{arith}
use lib.Bits.{bit_and, bit_or}
use lib.Dec.{eqb}
use Rattle.steps.specs.Bits.{bit}
use Rattle.sci.specs.model.Control.{TE}
use Rattle.sci.specs.model.Transmitter.{runs}
use Rattle.sci.specs.model.Serial.{txd_driven, txd}
use Rattle.sci.proofs.Membership.{bit_of_or, bit_of_and, bit_less}
use Rattle.qsm.specs.model.Pins.{outputs, without, select, mask, owned, own_levels, levels}
use Rattle.qsm.specs.declared.state.Module.{Module}
use Rattle.qsm.specs.declared.pins.Outputs.{Outputs}
use Rattle.claims_histories.specs.Demand2.{wire_level, PinShows}

or_true : (a : Bool) → a || true ≡ true
or_true true = refl
or_true false = refl

or_false : (a : Bool) → a || false ≡ a
or_false true = refl
or_false false = refl

and_true : (a : Bool) → a && true ≡ a
and_true true = refl
and_true false = refl

and_false : (a : Bool) → a && false ≡ false
and_false true = refl
and_false false = refl

-- Bit 7 of an or whose second has it, and of one whose first hasn't.
or_last : (x y : ℕ) → bit 7 y ≡ true → bit 7 (bit_or x y) ≡ true
or_last x y e = bit_of_or 7 x y ∙ ap (λ (b : Bool). bit 7 x || b) e ∙ or_true (bit 7 x)

or_rest : (x y : ℕ) → bit 7 x ≡ false → bit 7 (bit_or x y) ≡ bit 7 y
or_rest x y e = bit_of_or 7 x y ∙ ap (λ (b : Bool). b || bit 7 y) e

top : (b : Bool) → bit 7 (cond b 128 0) ≡ b
top true = refl
top false = refl

low_two : (b : Bool) → bit 7 (cond b 2 0) ≡ false
low_two true = refl
low_two false = refl

low_four : (b : Bool) → bit 7 (cond b 4 0) ≡ false
low_four true = refl
low_four false = refl

low_pcs : (p : ℕ) → bit 7 (p % 16 * 8) ≡ false
low_pcs p =
    let z : p % 16 * 8 / 128 % 2 ≡ 0 = omega arith in
    ap (λ (d : ℕ). eqb d 1) z

mask_driven : (o : Outputs) → o.driving ≡ true → bit 7 (mask o) ≡ true
unfolding mask
mask_driven o e =
    or_last (bit_or (without o.ddrqs (cond o.spe (bit_and o.pqspar 1) 0)) (cond o.spe 4 0)) (cond o.driving 128 0)
    (top o.driving ∙ e)

owned_driven : (o : Outputs) → o.driving ≡ true → bit 7 (owned o) ≡ true
unfolding owned
owned_driven o e =
    or_last (cond o.spe (bit_or (bit_and o.pqspar 0x7A) 4) 0) (cond o.driving 128 0) (top o.driving ∙ e)

own_level : (o : Outputs) → bit 7 (own_levels o) ≡ o.txd
unfolding own_levels
own_level o =
    or_rest (bit_or (bit_or (cond o.mosi 2 0) (cond o.sck 4 0)) (o.pcs % 16 * 8)) (cond o.txd 128 0)
    (or_rest (bit_or (cond o.mosi 2 0) (cond o.sck 4 0)) (o.pcs % 16 * 8)
    (or_rest (cond o.mosi 2 0) (cond o.sck 4 0) (low_two o.mosi) ∙ low_four o.sck)
    ∙ low_pcs o.pcs)
    ∙ top o.txd

-- The levels of a in a set that has bit 7.
chosen : (pins a b : ℕ) → bit 7 pins ≡ true → bit 7 (bit_or (bit_and a pins) (b - bit_and b pins)) ≡ bit 7 a
chosen pins a b e =
    bit_of_or 7 (bit_and a pins) (b - bit_and b pins)
    ∙ ap (λ (c : Bool). c || bit 7 (b - bit_and b pins))
    (bit_of_and 7 a pins ∙ ap (λ (c : Bool). bit 7 a && c) e ∙ and_true (bit 7 a))
    ∙ ap (λ (c : Bool). bit 7 a || c)
    (bit_less 7 b pins ∙ ap (λ (c : Bool). bit 7 b && not c) e ∙ and_false (bit 7 b))
    ∙ or_false (bit 7 a)

level_driven : (o : Outputs) → o.driving ≡ true → bit 7 (levels o) ≡ o.txd
unfolding levels
level_driven o e =
    let x : ℕ = select (owned o) (own_levels o) o.portqs in
    bit_of_and 7 x (mask o) ∙ ap (λ (c : Bool). bit 7 x && c) (mask_driven o e) ∙ and_true (bit 7 x) ∙ chosen (owned o) (own_levels o) o.portqs (owned_driven o e) ∙ own_level o

pub pin_shows : PinShows
pin_shows m e = (mask_driven (outputs m) e, level_driven (outputs m) e)

cond_true : (b c z : Bool) → b ≡ true → cond b c z ≡ c
cond_true true c z e = refl
cond_true false c z e = absurd (false≢true e)

pub wire_driven : (m : Module) (z : Bool) → txd_driven m.sci ≡ true → wire_level m z ≡ txd m.sci
wire_driven m z e =
    cond_true (bit 7 (mask (outputs m))) (bit 7 (levels (outputs m))) z (mask_driven (outputs m) e) ∙ level_driven (outputs m) e

-- An undriven TXD is one.
resting : (a r s : Bool) → a || r ≡ false → not r || s ≡ true
resting true r s e = absurd (true≢false e)
resting false true s e = absurd (true≢false e)
resting false false s e = refl

by_driven : (b : Bool) (m : Module) (z : Bool) → txd_driven m.sci ≡ b → wire_level m z ≡ true → wire_level m z ≡ txd m.sci
by_driven true m z e h = wire_driven m z e
by_driven false m z e h =
    h ∙ sym (resting (TE m.sci.sccr1) (runs m.sci.transmitter) (eqb (m.sci.transmitter.shift % 2) 1) e)

-- A wire that rests at one is TXD, driven or not.
pub wire_rests : (m : Module) (z : Bool) → wire_level m z ≡ true → wire_level m z ≡ txd m.sci
wire_rests m z h = by_driven (txd_driven m.sci) m z refl h
