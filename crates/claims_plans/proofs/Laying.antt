-- The writes of `load` but the last: the plan stands, with SPE clear. Assumes nothing.
use mathlib.Core.Path.{◌≡◌, refl, sym, ap, subst, ◌∙◌}
use mathlib.Core.Bool.{true, false}
use mathlib.Core.List.{[], ◌∷◌, append_assoc, foldl-append}
use Prim.Native.Nat.{ℕ, ◌/◌, ◌<◌}
use native.Mathlib.Nat.{lt_of_lt_of_le, pow-le-pow_right}
use native.Mathlib.Omega.{arith}
use Rattle.steps.specs.Bits.{bit, word, upper_byte, lower_byte}
use Rattle.qspi.specs.model.Fields.{spe, halt}
use Rattle.qspi.specs.model.Registers.{spcr2_bits}
use Rattle.qsm.specs.model.Map.{decode}
use Rattle.qsm.specs.model.Queue.{put_queue, queue_unmodelled, queue_guarded}
use Rattle.qsm.specs.model.Word.{put, unmodelled, guarded}
use Rattle.qsm.specs.model.Event.{does}
use Rattle.qsm.specs.declared.state.Module.{Module}
use Rattle.qsm.specs.declared.event.Event.{Event}
use Rattle.qsm.specs.declared.map.QueueWord.TheVariants.{Spcr0, Spcr2}
use Rattle.qsm.specs.declared.map.Place.TheVariants.{Queue}
use Rattle.tool_plan.specs.Check.{sent_no}
use Rattle.tool_plan.specs.Accepted.{Accepted}
use Rattle.tool_plan.specs.Loading.{writing, entries_written, with_pointers}
use Rattle.tool_plan.specs.Running.{played, Ready, Sized}
use Rattle.tool_plan.specs.declared.SetPoints.{SetPoints}
use Rattle.tool_plan.specs.declared.Plan.{Plan}
use Rattle.tool_plan.proofs.Meaning.{means}
use Rattle.tool_plan.proofs.Writing.{word_written_holds}
use Rattle.tool_plan.proofs.Loaded.{Entries, entries_in}
use Rattle.tool_plan.proofs.Started.{bits_same}
use Rattle.claims_plans.specs.Standing.{Laid}
use Rattle.claims_plans.specs.Plans.{all_but_last, Lays, LoadLays}

-- A word of sixteen bits is its two bytes.
pub two_bytes : (v : ℕ) → v < 65536 → word (upper_byte v) (lower_byte v) ≡ v
two_bytes v h = omega arith

module _ (s : SetPoints) (window : ℕ) (p : Plan) (m : Module) (a : Accepted s window p) (sized : Sized p) (r : Ready m) where
  sent_small : (k : ℕ) → k < p.count → sent_no p k < 65536
  sent_small k less =
      let here : k < s.count = omega (arith, a.once) in
      rw (a.carries k here).word
      (lt_of_lt_of_le (a.proper.ranges k here).word_fits (pow-le-pow_right {n = 2} (omega arith) (a.proper.ranges k here).bits_most))

  abbrev n₀ : Module
  n₀ = played (entries_written p p.count) m

  e : Entries p m n₀ p.count
  e = entries_in p m sized sent_small (omega (arith, a.once, a.proper.most)) r p.count (omega arith)

  off : spe n₀.qspi.registers.spcr1 ≡ false
  off = ap (λ x. spe x.spcr1) e.aside.registers ∙ r.off

  abbrev n₁ : Module
  n₁ = put n₀ (Queue Spcr0) p.spcr0 true true

  put_spcr0 : (does n₀ (writing 2 0x18 p.spcr0)).state ≡ n₁
  unfolding decode unmodelled guarded queue_unmodelled queue_guarded
  put_spcr0 = word_written_holds n₀ 0x18 p.spcr0 Spcr0 refl refl sized.spcr0 a.modelled (rw off)

  abbrev n₂ : Module
  n₂ = put n₁ (Queue Spcr2) (with_pointers p) true true

  pointers_small : with_pointers p < 65536
  pointers_small = omega (arith, sized.spcr2, a.first, a.last)

  put_spcr2 : (does n₁ (writing 2 0x1C (with_pointers p))).state ≡ n₂
  unfolding decode unmodelled guarded queue_unmodelled queue_guarded
  put_spcr2 = word_written_holds n₁ 0x1C (with_pointers p) Spcr2 refl refl pointers_small refl refl

  written : played (all_but_last p) m ≡ n₂
  written =
      foldl-append (λ (x : Module) (b : Event). (does x b).state) m (entries_written p p.count)
      (writing 2 0x18 p.spcr0 ∷ writing 2 0x1C (with_pointers p) ∷ [])
      ∙ ap (λ (x : Module). (does x (writing 2 0x1C (with_pointers p))).state) put_spcr0
      ∙ put_spcr2

  still_off : spe n₂.qspi.registers.spcr1 ≡ false
  unfolding put put_queue
  still_off = off

  laid : Laid p n₂
  unfolding put put_queue
  laid =
      record {
        words = e.words;
        commands = e.commands;
        spcr0 = two_bytes p.spcr0 sized.spcr0;
        spcr2 =
            ap spcr2_bits (two_bytes (with_pointers p) pointers_small)
            ∙ bits_same (p.spcr2 / 8192) p.last p.first (omega (arith, a.last)) (omega (arith, a.first));
        low = ap (λ x. x.flags.spif) e.aside.spsr ∙ r.low;
        goes = ap (λ x. halt x.spcr3) e.aside.registers ∙ r.goes;
        mosi_assigned = ap (λ (x : Module). bit 1 x.pqspar) e.aside.rest ∙ r.mosi_assigned;
        mosi_output = ap (λ (x : Module). bit 1 x.ddrqs) e.aside.rest ∙ r.mosi_output;
      }

  lays : Lays p m
  lays =
      record {
        off = ap (λ (x : Module). spe x.qspi.registers.spcr1) written ∙ still_off;
        laid = subst (Laid p) (sym written) laid;
        last =
            sym
            (append_assoc (entries_written p p.count) (writing 2 0x18 p.spcr0 ∷ writing 2 0x1C (with_pointers p) ∷ [])
            (writing 2 0x1A p.spcr1 ∷ []));
      }

pub load_lays : LoadLays
load_lays s window p m h sized r = lays s window p m ((means s window p).0 h) sized r
