-- The last write, and so the whole: any write that finds SPE clear, the word to SPCR1, and the writes of `load`. Assumes nothing.
use mathlib.Core.Path.{◌≡◌, refl, sym, ap, subst, ◌∙◌}
use mathlib.Core.Bool.{true, false, ◌&&◌, and-false}
use mathlib.Core.List.{List, [], ◌∷◌, foldl-append}
use Prim.Native.Nat.{ℕ, ◌+◌, ◌<◌}
use native.Mathlib.Omega.{arith}
use Rattle.qspi.specs.model.Fields.{mstr, spe}
use Rattle.qspi.specs.model.Parts.{with_registers}
use Rattle.qspi.specs.model.Registers.{with_spcr1, risen, write_spcr1}
use Rattle.qspi.specs.declared.Qspi.{Qspi}
use Rattle.qsm.specs.model.Map.{decode}
use Rattle.qsm.specs.model.Queue.{put_queue, queue_unmodelled, queue_guarded}
use Rattle.qsm.specs.model.State.{with_qspi}
use Rattle.qsm.specs.model.Word.{put, unmodelled, guarded}
use Rattle.qsm.specs.model.Event.{passes, does}
use Rattle.qsm.specs.declared.state.Module.{Module}
use Rattle.qsm.specs.declared.event.Access.TheVariants.{Write}
use Rattle.qsm.specs.declared.event.Event.{Event}
use Rattle.qsm.specs.declared.event.Event.TheVariants.{Hold}
use Rattle.qsm.specs.declared.event.Event.TheVariants as event
use Rattle.qsm.specs.declared.map.QueueWord.TheVariants.{Spcr1}
use Rattle.qsm.proofs.Limit.{is_room}
use Rattle.tool_plan.specs.Accepted.{Accepted}
use Rattle.tool_plan.specs.Loading.{writing}
use Rattle.tool_plan.specs.Running.{played, Span, NoFault}
use Rattle.tool_plan.specs.declared.SetPoints.{SetPoints}
use Rattle.tool_plan.specs.declared.Plan.{Plan}
use Rattle.tool_plan.proofs.Meaning.{means}
use Rattle.tool_plan.proofs.Writing.{word_written_holds}
use Rattle.claims_plans.specs.Standing.{Laid}
use Rattle.claims_plans.specs.Plans.{Works, all_but_last, Lays, AnyLastWrite, WordLast, LoadedInOrder, HoldsAreWatched}
use Rattle.claims_plans.proofs.Walked.{is}
use Rattle.claims_plans.proofs.Fresh.{Fresh, write_fresh}
use Rattle.claims_plans.proofs.Runs.{standing, runs_plan}
use Rattle.claims_plans.proofs.Arrived.{words_arrive}
use Rattle.claims_plans.proofs.Laying.{two_bytes, load_lays}

pub any_last_write : AnyLastWrite
any_last_write s window p m supervisor width offset value h off d is =
    let a : Accepted s window p = (means s window p).0 h in
    let l : Module = (does m (event.Access (Write supervisor width offset value))).state in
    let fresh : Fresh l.qspi = write_fresh m supervisor width offset value off (ap spe is ∙ a.enabled) in
    record {
      runs = runs_plan s window p a l (standing s window p a l d is fresh) d.mosi_assigned d.mosi_output;
      arrives = words_arrive s window p a l d is fresh;
    }

-- SPE rising.
rises : (q : Qspi) (v : ℕ) → v < 65536 → spe q.registers.spcr1 ≡ false → spe v ≡ true →
    write_spcr1 q v true true ≡ risen (with_registers q (with_spcr1 q.registers v))
unfolding write_spcr1
rises q v small off on = rw (two_bytes v small, off, on)

module _ (s : SetPoints) (window : ℕ) (p : Plan) (m : Module) (a : Accepted s window p) (small : p.spcr1 < 65536)
    (off : spe m.qspi.registers.spcr1 ≡ false) (d : Laid p m) where
  abbrev n : Module
  n = with_qspi m (risen (with_registers m.qspi (with_spcr1 m.qspi.registers p.spcr1)))

  written : (does m (writing 2 0x1A p.spcr1)).state ≡ n
  unfolding decode unmodelled guarded queue_unmodelled queue_guarded put put_queue
  written =
      word_written_holds m 0x1A p.spcr1 Spcr1 refl refl small (rw (a.enabled, ap mstr d.spcr0, a.master)) (rw off)
      ∙ ap (with_qspi m) (rises m.qspi p.spcr1 small off a.enabled)

  laid : Laid p n
  laid =
      record {
        words = d.words;
        commands = d.commands;
        spcr0 = d.spcr0;
        spcr2 = d.spcr2;
        low = d.low;
        goes = d.goes;
        mosi_assigned = d.mosi_assigned;
        mosi_output = d.mosi_output;
      }

  laid_after : Laid p (does m (writing 2 0x1A p.spcr1)).state
  laid_after = subst (Laid p) (sym written) laid

  is_after : (does m (writing 2 0x1A p.spcr1)).state.qspi.registers.spcr1 ≡ p.spcr1
  is_after = ap (λ (k : Module). k.qspi.registers.spcr1) written

pub word_last : WordLast
word_last s window p m h small off d =
    let a : Accepted s window p = (means s window p).0 h in
    any_last_write s window p m true 2 0x1A p.spcr1 h off (laid_after s window p m a small off d) (is_after s window p m a small off d)

pub loaded_in_order : LoadedInOrder
loaded_in_order s window p m h sized r =
    let lays : Lays p m = load_lays s window p m h sized r in
    subst (Works s p)
    (sym
    (ap (λ (es : List Event). played es m) lays.last
    ∙ foldl-append (λ (x : Module) (b : Event). (does x b).state) m (all_but_last p) (writing 2 0x1A p.spcr1 ∷ [])))
    (word_last s window p (played (all_but_last p) m) h sized.spcr1 lays.off lays.laid)

-- ---- holds alone

no_fault_same : (hs : List Span) (m n : Module) → n.pqspar ≡ m.pqspar → n.ddrqs ≡ m.ddrqs → NoFault m hs → NoFault n hs
no_fault_same [] m n e f calm = tt
no_fault_same (h ∷ hs) m n e f calm = (rw (e, f) calm.0, no_fault_same hs m n e f calm.1)

pub holds_are_watched : HoldsAreWatched
holds_are_watched m [] counts calm = (tt, refl)
holds_are_watched m (h ∷ hs) counts calm =
    let room : passes m h.clocks ≡ false = is_room m h.clocks (omega arith) in
    let n : Module = (does m (Hold h.pins h.rxd h.clocks)).state in
    let same = is m h.pins h.rxd h.clocks room in
    let later =
    holds_are_watched n hs (omega (arith, ap (λ (k : Module). k.clock) same))
    (no_fault_same hs m n (ap (λ (k : Module). k.pqspar) same) (ap (λ (k : Module). k.ddrqs) same) calm.1) in
    (((room, λ some. rw calm.0 (and-false (spe m.qspi.registers.spcr1 && mstr m.qspi.registers.spcr0))), later.0), ap (λ (c : ℕ). h.clocks + c) later.1)
