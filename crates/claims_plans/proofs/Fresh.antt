-- A write after which SPE is set and before which it was clear leaves a queue whose next clock is clock 1 of an entry, at NEWQP. Assumes nothing.
use mathlib.Core.Path.{◌≡◌, refl, sym, subst, ◌∙◌}
use mathlib.Core.Bool.{Bool, true, false, cond, ◌||◌}
use Prim.Native.Nat.{ℕ, ◌%◌}
use native.Mathlib.Omega.{arith}
use Rattle.steps.specs.Bits.{merge}
use Rattle.qspi.specs.model.Fields.{spe, newqp}
use Rattle.qspi.specs.model.Parts.{with_registers}
use Rattle.qspi.specs.model.Registers.{with_spcr1, switched, write_spcr1, spcr2_bits}
use Rattle.qspi.specs.model.Queue.{entry_at}
use Rattle.qspi.specs.declared.Qspi.{Qspi}
use Rattle.qsm.specs.model.Queue.{put_queue}
use Rattle.qsm.specs.model.Word.{put}
use Rattle.qsm.specs.model.Decision.{permits, stored_by, decide_stored}
use Rattle.qsm.specs.model.Event.{refused, writes, does}
use Rattle.qsm.specs.declared.state.Module.{Module}
use Rattle.qsm.specs.declared.map.Place.{Place}
use Rattle.qsm.specs.declared.map.Place.TheVariants.{Own, Serial, Queue, Hole}
use Rattle.qsm.specs.declared.map.QueueWord.{QueueWord}
use Rattle.qsm.specs.declared.map.QueueWord.TheVariants.{Spcr0, Spcr1, Spcr2, Spcr3Spsr, Receive, Transmit, Command}
use Rattle.qsm.specs.declared.event.Access.TheVariants.{Write}
use Rattle.qsm.specs.declared.event.Event.TheVariants as event
use Rattle.qsm.proofs.Booleans.{clash}
use Rattle.qsm.proofs.Stored.{state_if, write_keeps, own_keeps}

-- Before clock 1 of the first entry.
pub record Fresh (q : Qspi) : Type 0 where
  pub not_playing : q.entry.playing ≡ false
  pub not_delaying : q.entry.delaying ≡ false
  pub no_edge : q.entry.edges ≡ 0
  pub here : entry_at q ≡ newqp q.registers.spcr2

-- With SPE set, if at all.
abbrev FreshIf : Qspi → Type 0
FreshIf q = spe q.registers.spcr1 ≡ true → Fresh q

new_small : (w : ℕ) → w % 16 % 16 ≡ w % 16
new_small w = omega arith

-- SPE rises: the pointer comes from NEWQP, pending or not.
either_way : (pending : Bool) (w : ℕ) → cond pending (w % 16) (w % 16 % 16) ≡ w % 16
either_way true w = refl
either_way false w = new_small w

switched_fresh : (before after : Bool) (q : Qspi) → (before ≡ true → Fresh q) → spe q.registers.spcr1 ≡ after → FreshIf (switched before after q)
switched_fresh false false q f is up = clash (spe q.registers.spcr1) is up
switched_fresh false true q f is up =
    record { not_playing = refl; not_delaying = refl; no_edge = refl; here = either_way q.next.pending q.registers.spcr2 }
switched_fresh true false q f is up = clash (spe q.registers.spcr1) is up
switched_fresh true true q f is up = f refl

-- SPCR2 written: NEWQP touched is pending; untouched it stays.
new_kept : (w v : ℕ) (upper : Bool) → newqp (spcr2_bits (merge w v upper false)) ≡ newqp w
new_kept w v true = omega arith
new_kept w v false = omega arith

here_kept : (pending upper lower : Bool) (at w v : ℕ) → cond pending (w % 16) (at % 16) ≡ w % 16 →
    cond (pending || lower) (newqp (spcr2_bits (merge w v upper lower))) (at % 16) ≡ newqp (spcr2_bits (merge w v upper lower))
here_kept true upper lower at w v h = refl
here_kept false upper true at w v h = refl
here_kept false upper false at w v h = h ∙ sym (new_kept w v upper)

put_fresh : (q : Qspi) (w : QueueWord) (v : ℕ) (upper lower : Bool) → FreshIf q → FreshIf (put_queue q w v upper lower)
unfolding put_queue write_spcr1
put_fresh q Spcr0 v upper lower f up = let g = f up in record { not_playing = g.not_playing; not_delaying = g.not_delaying; no_edge = g.no_edge; here = g.here }
put_fresh q Spcr1 v upper lower f up =
    switched_fresh (spe q.registers.spcr1) (spe (merge q.registers.spcr1 v upper lower))
    (with_registers q (with_spcr1 q.registers (merge q.registers.spcr1 v upper lower)))
    (λ e. let g = f e in record { not_playing = g.not_playing; not_delaying = g.not_delaying; no_edge = g.no_edge; here = g.here }) refl up
put_fresh q Spcr2 v upper lower f up =
    let g = f up in
    record {
      not_playing = g.not_playing;
      not_delaying = g.not_delaying;
      no_edge = g.no_edge;
      here = here_kept q.next.pending upper lower q.next.pointer q.registers.spcr2 v g.here;
    }
put_fresh q Spcr3Spsr v upper lower f up = let g = f up in record { not_playing = g.not_playing; not_delaying = g.not_delaying; no_edge = g.no_edge; here = g.here }
put_fresh q (Receive i) v upper lower f up = let g = f up in record { not_playing = g.not_playing; not_delaying = g.not_delaying; no_edge = g.no_edge; here = g.here }
put_fresh q (Transmit i) v upper lower f up = let g = f up in record { not_playing = g.not_playing; not_delaying = g.not_delaying; no_edge = g.no_edge; here = g.here }
put_fresh q (Command i) v upper lower f up = let g = f up in record { not_playing = g.not_playing; not_delaying = g.not_delaying; no_edge = g.no_edge; here = g.here }

word_fresh : (m : Module) (p : Place) (v : ℕ) (upper lower : Bool) → FreshIf m.qspi → FreshIf (put m p v upper lower).qspi
unfolding put
word_fresh m (Own w) v upper lower f = subst FreshIf (sym (own_keeps m w v upper lower).1) f
word_fresh m (Serial w) v upper lower f = f
word_fresh m (Queue w) v upper lower f = put_fresh m.qspi w v upper lower f
word_fresh m Hole v upper lower f = f

pub write_fresh : (m : Module) (supervisor : Bool) (width offset value : ℕ) → spe m.qspi.registers.spcr1 ≡ false →
    spe (does m (event.Access (Write supervisor width offset value))).state.qspi.registers.spcr1 ≡ true →
    Fresh (does m (event.Access (Write supervisor width offset value))).state.qspi
unfolding does writes refused
write_fresh m supervisor width offset value off =
    state_if (λ (k : Module). FreshIf k.qspi) (permits (decide_stored m (stored_by m width offset value) supervisor width offset value)) m
    (stored_by m width offset value).state 0 0 _
    (λ h. write_keeps (λ (k : Module). FreshIf k.qspi) word_fresh m width offset value (λ up. clash (spe m.qspi.registers.spcr1) off up))
    (λ h up. clash (spe m.qspi.registers.spcr1) off up)
