-- The clauses on RE, on the prescaler and on the request.
-- Assumes nothing.
use mathlib.Core.Path.{◌≡◌, refl, ap, sym, ◌∙◌}
use mathlib.Core.Bool.{Bool, true, false, cond, not, ◌&&◌, and-true, and-false, or-true, or-false, or_assoc, and-or_distrib_right, true≢false, false≢true}
use Prim.Native.Nat.{ℕ, zero, suc, ◌+◌, ◌*◌, ◌-◌, ◌/◌, ◌%◌, ◌^◌, ◌≤◌, ◌<◌, min}
use native.Mathlib.Omega.{arith}
use native.Mathlib.Nat.{div-eq_of_lt}
use lib.Dec.{eqb}
use lib.Pow.{pow_mono}
use borrow.Author.Tests.{eq-eqb, ne_eqb}
use Rattle.steps.specs.Bits.{bit, merge}
use Rattle.steps.specs.Iterate.{iterate}
use Rattle.sci.specs.model.Flags.{RAF, flag}
use Rattle.sci.specs.claims.Members.{member}
use Rattle.sci.specs.model.Status.{has, fall}
use Rattle.sci.specs.model.Control.{SCBR, TE, RE, RWU, sccr0_bits, sccr1_bits}
use Rattle.sci.specs.model.Transmitter.{runs}
use Rattle.sci.specs.model.Serial.{active, due, sampled, prescaled, clocked, sccr1_word, scsr_word, sccr0_set, wrote_sccr0, with_sccr1, stopped, wrote_sccr1, asks}
use Rattle.sci.specs.quick.Quiet.{quiet, with_count, skipped}
use Rattle.sci.specs.claims.Wire.{Access, read_status, read_data, write_data, write_control, accessed}
use Rattle.sci.specs.claims.SerialClauses.{bits_down, flags_down, Mapped, Queued, Stopped, REStops, Sleeps, Restarts, Paced, sources, some_set, SerialClauses}
use Rattle.sci.specs.declared.serial.Sci.{Sci}
use Rattle.sci.proofs.Flagged.{is_set, has_flag, set_fall}
use Rattle.sci.proofs.Quiet.{skips, plays}
use Rattle.sci.proofs.Reachable.{re_put}

-- No flag but RAF is RAF.
raf_only : (k : ℕ) → (k ≡ 5 → ⊥) → member k RAF ≡ false
unfolding member
raf_only zero h = refl
raf_only (suc zero) h = refl
raf_only (suc (suc zero)) h = refl
raf_only (suc (suc (suc zero))) h = refl
raf_only (suc (suc (suc (suc zero)))) h = refl
raf_only (suc (suc (suc (suc (suc zero))))) h = absurd (h refl)
raf_only (suc (suc (suc (suc (suc (suc k)))))) h =
    let big : 2 ^ 6 ≤ 2 ^ suc (suc (suc (suc (suc (suc k))))) = pow_mono {i = 6} (omega arith) in
    let small : 32 / 2 ^ suc (suc (suc (suc (suc (suc k))))) ≡ 0 = div-eq_of_lt (omega arith) in
    rw small

-- SCCR1 written with RE clear.
module _ (s : Sci) (v : ℕ) where
  off : Stopped s (stopped false (with_sccr1 s v))
  unfolding member
  off =
      record {
        searching = refl;
        no_ones = refl;
        count = refl;
        since = refl;
        raf = has_flag 5 (fall s.status RAF) ∙ set_fall 5 s.status RAF ∙ and-false (is_set 5 s.status);
        others =
            λ k h.
            set_fall k s.status RAF ∙ ap (λ (b : Bool). is_set k s.status && not b) (raf_only k h)
            ∙ and-true (is_set k s.status);
        scdr = refl;
      }

  stops : (b : Bool) → RE v ≡ b → RE (stopped b (with_sccr1 s v)).sccr1 ≡ false → Stopped s (stopped b (with_sccr1 s v))
  stops true e h = absurd (true≢false (sym e ∙ sym (re_put v) ∙ h))
  stops false e h = off

re_stops : REStops
unfolding wrote_sccr1
re_stops s v upper lower =
    let new : ℕ = merge (sccr1_word s) v upper lower in
    stops s new (RE new) refl

-- RWU as it is written, and as it is read.
rwu_merged : (a v : ℕ) (upper lower : Bool) → RWU (merge a v upper lower) ≡ cond lower (RWU v) (RWU a)
rwu_merged a v upper true =
    let e : merge a v upper true / 2 ^ 1 % 2 ≡ v / 2 ^ 1 % 2 = omega arith in
    ap (λ (d : ℕ). eqb d 1) e
rwu_merged a v upper false =
    let e : merge a v upper false / 2 ^ 1 % 2 ≡ a / 2 ^ 1 % 2 = omega arith in
    ap (λ (d : ℕ). eqb d 1) e

rwu_read : (c : ℕ) (asleep : Bool) → RWU (cond asleep (sccr1_bits c + 2) (sccr1_bits c)) ≡ asleep
rwu_read c true = eq-eqb ((sccr1_bits c + 2) / 2 ^ 1 % 2) 1 (omega arith)
rwu_read c false = ne_eqb (sccr1_bits c / 2 ^ 1 % 2) 1 (λ e. omega arith)

sleeps : Sleeps
unfolding wrote_sccr1
sleeps s v upper lower =
    let new : ℕ = merge (sccr1_word s) v upper lower in
    go new (RE new) ∙ rwu_merged (sccr1_word s) v upper lower ∙ ap (cond lower (RWU v)) (rwu_read s.sccr1 s.receiver.asleep)
  where
    go : (w : ℕ) (b : Bool) → (stopped b (with_sccr1 s w)).receiver.asleep ≡ RWU w
    go w true = refl
    go w false = refl

te_put : (w : ℕ) → TE (sccr1_bits w) ≡ TE w
te_put w =
    let e : sccr1_bits w / 2 ^ 3 % 2 ≡ w / 2 ^ 3 % 2 = omega arith in
    ap (λ (d : ℕ). eqb d 1) e

queues : (s : Sci) (v : ℕ) → Queued s (with_sccr1 s v)
queues s v =
    record {
      rises = λ e f. rw (e, sym (te_put v) ∙ f) (or-true s.transmitter.preamble);
      stays = λ e f. rw (e, sym (te_put v) ∙ f) (or-false s.transmitter.preamble);
      falls = λ f. rw (sym (te_put v) ∙ f);
      left = refl;
      shift = refl;
      scdr = refl;
    }

-- Stopping the receiver leaves the transmitter.
still_queued : (s r : Sci) (re : Bool) → Queued s r → Queued s (stopped re r)
still_queued s r true h = h
still_queued s r false h =
    record { rises = h.rises; stays = h.stays; falls = h.falls; left = h.left; shift = h.shift; scdr = h.scdr }

queued : (s : Sci) (v : ℕ) (upper lower : Bool) → Queued s (wrote_sccr1 s v upper lower)
unfolding wrote_sccr1
queued s v upper lower =
    let new : ℕ = merge (sccr1_word s) v upper lower in
    still_queued s (with_sccr1 s new) (RE new) (queues s new)

-- The prescaler.
others : (s : Sci) (a : Access) → (accessed a s).prescaler ≡ s.prescaler
unfolding accessed wrote_sccr1
others s read_status = refl
others s read_data = refl
others s (write_data v upper) = refl
others s (write_control v upper lower) = go (RE (merge (sccr1_word s) v upper lower))
  where
    go : (b : Bool) → (stopped b (with_sccr1 s (merge (sccr1_word s) v upper lower))).prescaler ≡ s.prescaler
    go true = refl
    go false = refl

changed : (s : Sci) (new : ℕ) (b : Bool) → eqb new s.sccr0 ≡ b → ((sccr0_set b s new).sccr0 ≡ s.sccr0 → ⊥) →
    (sccr0_set b s new).prescaler ≡ 0
changed s new true e h = absurd (h refl)
changed s new false e h = refl

kept : (s : Sci) (new : ℕ) (b : Bool) → eqb new s.sccr0 ≡ b → (sccr0_set b s new).sccr0 ≡ s.sccr0 → sccr0_set b s new ≡ s
kept s new true e h = refl
kept s new false e h = absurd (false≢true (sym e ∙ eq-eqb new s.sccr0 h))

restarts : (s : Sci) → Restarts s
unfolding wrote_sccr0
restarts s =
    record {
      changed =
          λ v upper lower.
          let new : ℕ = sccr0_bits (merge s.sccr0 v upper lower) in
          changed s new (eqb new s.sccr0) refl;
      kept =
          λ v upper lower.
          let new : ℕ = sccr0_bits (merge s.sccr0 v upper lower) in
          kept s new (eqb new s.sccr0) refl;
      same =
          λ v h.
          let e : sccr0_bits (merge s.sccr0 v true true) ≡ s.sccr0 = omega arith in
          rw (eq-eqb (sccr0_bits (merge s.sccr0 v true true)) s.sccr0 e);
      others = others s;
    }

-- Its pace.
module _ (s : Sci) (x : Bool) where
  before : active s ≡ true → s.prescaler ≡ 0 → (k : ℕ) → k < 2 * SCBR s.sccr0 → iterate k (λ (c : Sci). clocked c x) s ≡ with_count s k
  unfolding quiet skipped
  before a z k h =
      let some : eqb (2 * SCBR s.sccr0) 0 ≡ false = ne_eqb (2 * SCBR s.sccr0) 0 (λ e. omega arith) in
      let count : min 65535 (s.prescaler + k) ≡ k = omega arith in
      let fits : k ≤ quiet s = rw (a, some) (omega arith) in
      skips k s x (omega arith) fits ∙ rw (a, count)

  first : active s ≡ true → s.prescaler ≡ 0 → 0 < SCBR s.sccr0 →
      iterate (2 * SCBR s.sccr0) (λ (c : Sci). clocked c x) s ≡ sampled s x
  unfolding quiet
  first a z h =
      let some : eqb (2 * SCBR s.sccr0) 0 ≡ false = ne_eqb (2 * SCBR s.sccr0) 0 (λ e. omega arith) in
      let clocks : quiet s ≡ 2 * SCBR s.sccr0 - 1 = rw (a, some) (omega arith) in
      let all : 2 * SCBR s.sccr0 ≡ suc (quiet s) = omega arith in
      ap (λ (k : ℕ). iterate k (λ (c : Sci). clocked c x) s) all ∙ plays s x (omega arith) (omega arith)

  none : SCBR s.sccr0 ≡ 0 → clocked s x ≡ with_count s (clocked s x).prescaler
  unfolding clocked
  none z = go (active s)
    where
      go : (b : Bool) → cond b (prescaled (due s) s x) s ≡ with_count s (cond b (prescaled (due s) s x) s).prescaler
      go true = rw z
      go false = refl

  still : TE s.sccr1 ≡ false → RE s.sccr1 ≡ false → runs s.transmitter ≡ false → clocked s x ≡ s
  unfolding clocked
  still t r u = rw (t, r, u)

  paced : Paced s x
  paced = record { before = before; sample = first; none = none; still = still }

-- The request: a flag, and an enable, as their bits are read.
flag_read : (k : ℕ) (s : Sci) → scsr_word s / 2 ^ k % 2 ≡ s.status.flags.bits / 2 ^ k % 2 → has s.status (flag (2 ^ k)) ≡ bit k (scsr_word s)
unfolding member
flag_read k s e = has_flag k s.status ∙ ap (λ (d : ℕ). eqb d 1) (sym e)

enable_read : (k : ℕ) (s : Sci) → sccr1_bits s.sccr1 / 2 ^ k % 2 ≡ s.sccr1 / 2 ^ k % 2 →
    (sccr1_bits s.sccr1 + 2) / 2 ^ k % 2 ≡ s.sccr1 / 2 ^ k % 2 → bit k s.sccr1 ≡ bit k (sccr1_word s)
enable_read k s e f = go s.receiver.asleep
  where
    go : (b : Bool) → bit k s.sccr1 ≡ bit k (cond b (sccr1_bits s.sccr1 + 2) (sccr1_bits s.sccr1))
    go true = ap (λ (d : ℕ). eqb d 1) (sym f)
    go false = ap (λ (d : ℕ). eqb d 1) (sym e)

request : (s : Sci) → asks s ≡ some_set sources (scsr_word s) (sccr1_word s)
unfolding some_set
request s =
    rw (flag_read 8 s (omega arith), flag_read 7 s (omega arith), flag_read 6 s (omega arith), flag_read 3 s (omega arith), flag_read 4 s (omega arith), enable_read 7 s (omega arith) (omega arith), enable_read 6 s (omega arith) (omega arith), enable_read 5 s (omega arith) (omega arith), enable_read 4 s (omega arith) (omega arith))
    (simp (or_assoc, or-false, and-or_distrib_right))

mapped : Mapped
unfolding bits_down flags_down
mapped = record { sccr1 = λ c. refl; scsr = refl }

pub serial_clauses : SerialClauses
serial_clauses = record { mapped = mapped; stops = re_stops; sleeps = sleeps; queued = queued; restarts = restarts; reset = refl; paced = paced; request = request }
