-- What loading a plan leaves: a queue whose next clock is clock 1 of the plan's first entry. Assumes nothing.
use mathlib.Core.Path.{◌≡◌, refl, sym, ap, subst, ◌∙◌}
use mathlib.Core.Bool.{true, false}
use mathlib.Core.List.{foldl-append}
use Prim.Native.Nat.{ℕ, ◌+◌, ◌*◌, ◌/◌, ◌%◌, ◌<◌}
use native.Mathlib.Nat.{lt_of_lt_of_le, pow-le-pow_right}
use native.Mathlib.Omega.{arith}
use lib.ListN.{get_or}
use borrow.Author.Tests.{le-leb}
use Rattle.steps.specs.Bits.{word, upper_byte, lower_byte}
use Rattle.qspi.specs.model.Fields.{spe, spbr, wren, endqp, halt}
use Rattle.qspi.specs.model.Parts.{with_registers}
use Rattle.qspi.specs.model.Registers.{with_spcr1, risen, write_spcr1, spcr2_bits}
use Rattle.qspi.specs.model.Queue.{entry_at}
use Rattle.qspi.specs.claims.Laws.{Starting}
use Rattle.qspi.specs.declared.Qspi.{Qspi}
use Rattle.qsm.specs.model.Map.{decode}
use Rattle.qsm.specs.model.Queue.{put_queue, queue_unmodelled, queue_guarded}
use Rattle.qsm.specs.model.Word.{put, unmodelled, guarded}
use Rattle.qsm.specs.model.Event.{does}
use Rattle.qsm.specs.declared.state.Module.{Module}
use Rattle.qsm.specs.declared.event.Event.{Event}
use Rattle.qsm.specs.declared.map.QueueWord.TheVariants.{Spcr0, Spcr1, Spcr2}
use Rattle.qsm.specs.declared.map.Place.TheVariants.{Queue}
use Rattle.qsm.proofs.Booleans.{or_true}
use Rattle.tool_plan.specs.Check.{command_no, sent_no}
use Rattle.tool_plan.specs.Accepted.{Accepted}
use Rattle.tool_plan.specs.Loading.{writing, place_no, entries_written, with_pointers, registers_written, loading}
use Rattle.tool_plan.specs.Running.{played, Ready, Sized}
use Rattle.tool_plan.specs.declared.SetPoints.{SetPoints}
use Rattle.tool_plan.specs.declared.Plan.{Plan}
use Rattle.tool_plan.proofs.Writing.{word_written_holds}
use Rattle.tool_plan.proofs.Loaded.{Entries, entries_in}

-- A queue that is to run a plan.
pub record Started (p : Plan) (q : Qspi) : Type 0 where
  pub starts : Starting q
  pub first : entry_at q ≡ p.first
  pub spcr0 : q.registers.spcr0 ≡ p.spcr0
  pub spcr1 : q.registers.spcr1 ≡ p.spcr1
  pub last : endqp q.registers.spcr2 ≡ p.last
  pub no_wrap : wren q.registers.spcr2 ≡ false
  pub goes : halt q.registers.spcr3 ≡ false
  pub low : q.spsr.flags.spif ≡ false
  pub words : (k : ℕ) → k < p.count → get_or q.ram.transmit (place_no p k) 0 ≡ sent_no p k
  pub commands : (k : ℕ) → k < p.count → get_or q.ram.commands (place_no p k) 0 ≡ command_no p k

-- A word of sixteen bits is its two bytes.
two_bytes : (v : ℕ) → v < 65536 → word (upper_byte v) (lower_byte v) ≡ v
two_bytes v h = omega arith

-- ---- SPCR2 with the pointers put in

module _ (h l f : ℕ) (few : l < 16) (low : f < 16) where
  top : (h * 8192 + l * 256 + f) / 8192 ≡ h
  top = omega arith

  end_at : (h * 8192 + l * 256 + f) / 256 % 16 ≡ l
  end_at = omega arith

  new_at : (h * 8192 + l * 256 + f) % 16 ≡ f
  new_at = omega arith

  pub bits_same : spcr2_bits (h * 8192 + l * 256 + f) ≡ h * 8192 + l * 256 + f
  bits_same = rw (top, end_at, new_at)

wren_same : (v l f : ℕ) → l < 16 → f < 16 → wren (v / 8192 * 8192 + l * 256 + f) ≡ wren v
wren_same v l f few low =
    let same : (v / 8192 * 8192 + l * 256 + f) / 16384 % 2 ≡ v / 16384 % 2 = omega arith in
    rw same

-- SPE rising.
rises : (q : Qspi) (v : ℕ) → v < 65536 → spe q.registers.spcr1 ≡ false → spe v ≡ true →
    write_spcr1 q v true true ≡ risen (with_registers q (with_spcr1 q.registers v))
unfolding write_spcr1
rises q v small off on = rw (two_bytes v small, off, on)

module _ (s : SetPoints) (window : ℕ) (p : Plan) (m : Module) (a : Accepted s window p) (sized : Sized p) (r : Ready m) where
  sent_small : (k : ℕ) → k < p.count → sent_no p k < 65536
  sent_small k less =
      let here : k < s.count = omega (arith, a.once) in
      rw (a.carries k here).word
      (lt_of_lt_of_le (a.proper.ranges k here).word_fits (pow-le-pow_right {n = 2} (omega arith) (a.proper.ranges k here).bits_most))

  abbrev n₀ : Module
  n₀ = played (entries_written p p.count) m

  e : Entries p m n₀ p.count
  e = entries_in p m sized sent_small (omega (arith, a.once, a.proper.most)) r p.count (omega arith)

  off : spe n₀.qspi.registers.spcr1 ≡ false
  off = ap (λ x. spe x.spcr1) e.aside.registers ∙ r.off

  abbrev n₁ : Module
  n₁ = put n₀ (Queue Spcr0) p.spcr0 true true

  put_spcr0 : (does n₀ (writing 2 0x18 p.spcr0)).state ≡ n₁
  unfolding decode unmodelled guarded queue_unmodelled queue_guarded
  put_spcr0 =
      word_written_holds n₀ 0x18 p.spcr0 Spcr0 refl refl sized.spcr0 a.modelled (rw off)

  abbrev n₂ : Module
  n₂ = put n₁ (Queue Spcr2) (with_pointers p) true true

  pointers_small : with_pointers p < 65536
  pointers_small = omega (arith, sized.spcr2, a.first, a.last)

  put_spcr2 : (does n₁ (writing 2 0x1C (with_pointers p))).state ≡ n₂
  unfolding decode unmodelled guarded queue_unmodelled queue_guarded
  put_spcr2 = word_written_holds n₁ 0x1C (with_pointers p) Spcr2 refl refl pointers_small refl refl

  still_off : spe n₂.qspi.registers.spcr1 ≡ false
  unfolding put put_queue
  still_off = off

  abbrev n₃ : Module
  n₃ = put n₂ (Queue Spcr1) p.spcr1 true true

  put_spcr1 : (does n₂ (writing 2 0x1A p.spcr1)).state ≡ n₃
  unfolding decode unmodelled guarded queue_unmodelled queue_guarded put put_queue
  put_spcr1 =
      word_written_holds n₂ 0x1A p.spcr1 Spcr1 refl refl sized.spcr1 (rw (a.enabled, two_bytes p.spcr0 sized.spcr0, a.master))
      (rw still_off)

  pub loaded : played (loading p) m ≡ n₃
  loaded =
      foldl-append (λ (x : Module) (b : Event). (does x b).state) m (entries_written p p.count) (registers_written p)
      ∙ ap (λ (x : Module). (does (does x (writing 2 0x1C (with_pointers p))).state (writing 2 0x1A p.spcr1)).state) put_spcr0
      ∙ ap (λ (x : Module). (does x (writing 2 0x1A p.spcr1)).state) put_spcr2
      ∙ put_spcr1

  abbrev q₂ : Qspi
  q₂ = n₂.qspi

  is_risen : n₃.qspi ≡ risen (with_registers q₂ (with_spcr1 q₂.registers p.spcr1))
  unfolding put put_queue
  is_risen = rises q₂ p.spcr1 sized.spcr1 still_off a.enabled

  spcr0_is : q₂.registers.spcr0 ≡ p.spcr0
  unfolding put put_queue
  spcr0_is = two_bytes p.spcr0 sized.spcr0

  spcr2_is : q₂.registers.spcr2 ≡ with_pointers p
  unfolding put put_queue
  spcr2_is =
      ap spcr2_bits (two_bytes (with_pointers p) pointers_small)
      ∙ bits_same (p.spcr2 / 8192) p.last p.first (omega (arith, a.last)) (omega (arith, a.first))

  pending_is : q₂.next.pending ≡ true
  unfolding put put_queue
  pending_is = or_true n₀.qspi.next.pending

  spcr3_is : q₂.registers.spcr3 ≡ m.qspi.registers.spcr3
  unfolding put put_queue
  spcr3_is = ap (λ x. x.spcr3) e.aside.registers

  spsr_is : q₂.spsr ≡ m.qspi.spsr
  unfolding put put_queue
  spsr_is = e.aside.spsr

  ram_is : q₂.ram ≡ n₀.qspi.ram
  unfolding put put_queue
  ram_is = refl

  pub started : Started p n₃.qspi
  started =
      subst (Started p) (sym is_risen)
      (record {
        starts =
            record {
              on = a.enabled;
              not_playing = refl;
              not_delaying = refl;
              goes = rw (ap spbr spcr0_is, le-leb 2 (spbr p.spcr0) a.rate);
            };
        first = rw (pending_is, spcr2_is) (new_at (p.spcr2 / 8192) p.last p.first (omega (arith, a.last)) (omega (arith, a.first)));
        spcr0 = spcr0_is;
        spcr1 = refl;
        last =
            ap endqp spcr2_is ∙ end_at (p.spcr2 / 8192) p.last p.first (omega (arith, a.last)) (omega (arith, a.first));
        no_wrap =
            ap wren spcr2_is ∙ wren_same p.spcr2 p.last p.first (omega (arith, a.last)) (omega (arith, a.first)) ∙ a.no_wrap;
        goes = ap halt spcr3_is ∙ r.goes;
        low = ap (λ x. x.flags.spif) spsr_is ∙ r.low;
        words = λ k less. ap (λ x. get_or x.transmit (place_no p k) 0) ram_is ∙ e.words k less;
        commands = λ k less. ap (λ x. get_or x.commands (place_no p k) 0) ram_is ∙ e.commands k less;
      })

  -- The pin registers stay.
  pub pins_stay : (n₃.pqspar ≡ m.pqspar) × (n₃.ddrqs ≡ m.ddrqs) × (n₃.clock ≡ m.clock)
  unfolding put
  pins_stay = (
    ap (λ (x : Module). x.pqspar) e.aside.rest,
    ap (λ (x : Module). x.ddrqs) e.aside.rest,
    ap (λ (x : Module). x.clock) e.aside.rest,
  )
