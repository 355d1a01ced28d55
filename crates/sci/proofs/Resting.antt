-- A sample of a receiver and of a transmitter that rest leaves them as they are.
use Prim.Native.Nat.{ℕ, ◌+◌, ◌-◌, ◌/◌, ◌%◌}
use mathlib.Core.Bool.{Bool, true, false, not, cond, ◌&&◌, ◌||◌, or-true, false≢true}
use mathlib.Core.Path.{◌≡◌, refl, ap, sym, ◌∙◌}
use native.Mathlib.Omega.{arith}
use lib.Dec.{eqb}
use borrow.Author.Tests.{eqb-true, ne_eqb, not-true}
use Rattle.sci.specs.model.Flags.{TDRE}
use Rattle.sci.specs.model.Status.{has}
use Rattle.sci.specs.model.Control.{TE, M, bits_of, frame_samples}
use Rattle.sci.specs.model.Receiver.{reaches, idle_count, outcome, received}
use Rattle.sci.specs.model.Account.{counting}
use Rattle.sci.specs.model.Transmitter.{sent}
use Rattle.sci.specs.quick.Plain.{plain, passed, rested, turns, shifted, rests as framerRests}
use Rattle.sci.specs.quick.Quiet.{sender_rests, receiver_rests}
use Rattle.sci.specs.declared.account.Account.{Account}
use Rattle.sci.specs.declared.framer.Framer.{Framer}
use Rattle.sci.specs.declared.status.Status.{Status}
use Rattle.sci.specs.declared.receiver.Receiver.{Receiver}
use Rattle.sci.specs.declared.receiver.Received.{Received}
use Rattle.sci.specs.declared.transmitter.Transmitter.{Transmitter}
use Rattle.sci.specs.declared.transmitter.Sent.{Sent}
use Rattle.sci.proofs.Plain.{first, second, passes, shifts}
use Rattle.sci.proofs.Counts.{no_frame}

-- What a receiver's rest says.
record Still (r : Receiver) (n : ℕ) (x : Bool) : Type 0 where
  search : r.framer.framing ≡ false
  one : r.last1 ≡ x
  two : r.last2 ≡ x
  three : r.last3 ≡ x
  idle : r.idle ≡ cond x (frame_samples n) 0

still : (x : Bool) (r : Receiver) (n : ℕ) → receiver_rests x r n ≡ true → Still r n x
still true r n h =
    let a : _ = first (not r.framer.framing && r.last1 && r.last2 && r.last3) (eqb r.idle (frame_samples n)) h in
    let b : _ = first (not r.framer.framing && r.last1 && r.last2) r.last3 a in
    let c : _ = first (not r.framer.framing && r.last1) r.last2 b in
    record {
      search = not-true r.framer.framing (first (not r.framer.framing) r.last1 c);
      one = second (not r.framer.framing) r.last1 c;
      two = second (not r.framer.framing && r.last1) r.last2 b;
      three = second (not r.framer.framing && r.last1 && r.last2) r.last3 a;
      idle =
          eqb-true r.idle (frame_samples n)
          (second (not r.framer.framing && r.last1 && r.last2 && r.last3) (eqb r.idle (frame_samples n)) h);
    }
still false r n h =
    let a : _ = first (not r.framer.framing && not r.last1 && not r.last2 && not r.last3) (eqb r.idle 0) h in
    let b : _ = first (not r.framer.framing && not r.last1 && not r.last2) (not r.last3) a in
    let c : _ = first (not r.framer.framing && not r.last1) (not r.last2) b in
    record {
      search = not-true r.framer.framing (first (not r.framer.framing) (not r.last1) c);
      one = not-true r.last1 (second (not r.framer.framing) (not r.last1) c);
      two = not-true r.last2 (second (not r.framer.framing && not r.last1) (not r.last2) b);
      three = not-true r.last3 (second (not r.framer.framing && not r.last1 && not r.last2) (not r.last3) a);
      idle =
          eqb-true r.idle 0
          (second (not r.framer.framing && not r.last1 && not r.last2 && not r.last3) (eqb r.idle 0) h);
    }

-- A sample of it is plain, and passes it on as it is.
module _ (r : Receiver) (n : ℕ) where
  is_plain : (x : Bool) → Still r n x → plain r n x ≡ true
  unfolding plain framerRests
  is_plain true h =
      let short : reaches r n ≡ false = ne_eqb (r.idle + 1) (frame_samples n) (λ e. omega (arith, h.idle)) in
      rw (h.search, short, or-true)
  is_plain false h = rw (h.search, h.one)

  count : (x : Bool) → Still r n x → idle_count x r.idle (frame_samples n) ≡ r.idle
  count true h = omega (arith, h.idle)
  count false h = sym h.idle

  made : Framer → Bool → Bool → Bool → ℕ → Receiver
  made f a b c i =
      record {
        framer = f;
        last1 = a;
        last2 = b;
        last3 = c;
        idle = i;
        since = r.since;
        asleep = r.asleep;
        scdr = r.scdr;
        noise = r.noise;
      }

  search_stays : r.framer.framing ≡ false → rested r.framer ≡ r.framer
  unfolding rested
  search_stays e = rw e

  stays : (x : Bool) → Still r n x → passed r n x ≡ r
  unfolding passed made
  stays x h =
      ap (λ (f : Framer). made f x r.last1 r.last2 (idle_count x r.idle (frame_samples n))) (search_stays h.search)
      ∙ ap (λ (a : Bool). made r.framer a r.last1 r.last2 (idle_count x r.idle (frame_samples n))) (sym h.one)
      ∙ ap (λ (b : Bool). made r.framer r.last1 b r.last2 (idle_count x r.idle (frame_samples n))) (h.one ∙ sym h.two)
      ∙ ap (λ (c : Bool). made r.framer r.last1 r.last2 c (idle_count x r.idle (frame_samples n))) (h.two ∙ sym h.three)
      ∙ ap (made r.framer r.last1 r.last2 r.last3) (count x h)

pub hears_nothing : (r : Receiver) (s : Status) (sccr1 : ℕ) (x : Bool) → receiver_rests x r (bits_of (M sccr1)) ≡ true →
    ◌≡◌ {A = Received} (received r s sccr1 x) (record { receiver = r; status = s })
hears_nothing r s sccr1 x h =
    let rest : Still r (bits_of (M sccr1)) x = still x r (bits_of (M sccr1)) h in
    sym (passes r s sccr1 x (is_plain r (bits_of (M sccr1)) x rest)) ∙ ap with_status_holds (stays r (bits_of (M sccr1)) x rest)
  where
    with_status_holds : Receiver → Received
    with_status_holds q = record { receiver = q; status = s }

-- Nor does it end a frame.
pub counts_nothing : (a : Account) (r : Receiver) (s : Status) (sccr1 : ℕ) (x : Bool) → receiver_rests x r (bits_of (M sccr1)) ≡ true →
    counting a (outcome r s sccr1 x) ≡ a
counts_nothing a r s sccr1 x h = no_frame a r s sccr1 x (rw (still x r (bits_of (M sccr1)) h).search)

-- A free shifter with nothing to send.
nothing_waits : (over te free preamble empty : Bool) → over ≡ false → not (te && (preamble || not empty)) ≡ true →
    (over || te && free && preamble || te && free && not preamble && not empty) ≡ false
nothing_waits over false free preamble empty o h = rw o
nothing_waits over true free true empty o h = absurd (false≢true h)
nothing_waits over true free false false o h = absurd (false≢true h)
nothing_waits over true true false true o h = rw o
nothing_waits over true false false true o h = rw o

module _ (t : Transmitter) (s : Status) (sccr1 : ℕ) (h : sender_rests t s sccr1 ≡ true) where
  free_and_empty : (eqb t.left 0 && eqb t.shift 0) ≡ true
  free_and_empty = first (eqb t.left 0 && eqb t.shift 0) _ h

  free : t.left ≡ 0
  free = eqb-true t.left 0 (first (eqb t.left 0) (eqb t.shift 0) free_and_empty)

  empty : t.shift ≡ 0
  empty = eqb-true t.shift 0 (second (eqb t.left 0) (eqb t.shift 0) free_and_empty)

  no_turn : turns t s sccr1 ≡ false
  unfolding turns
  no_turn =
      nothing_waits (eqb t.left 1) (TE sccr1) _ t.preamble (has s TDRE) (ne_eqb t.left 1 (λ e. omega (arith, free)))
      (second (eqb t.left 0 && eqb t.shift 0) _ h)

  with_bits : ℕ → ℕ → Transmitter
  with_bits shift left = record { scdr = t.scdr; preamble = t.preamble; shift = shift; left = left }

  halves : (b : Bool) → cond b (t.shift / 2) t.shift ≡ t.shift
  halves true = omega (arith, empty)
  halves false = refl

  stands : shifted t ≡ t
  unfolding shifted with_bits
  stands =
      let none : t.left - 1 ≡ t.left = omega (arith, free) in
      ap (λ (shift : ℕ). with_bits shift (t.left - 1)) (halves (eqb ((t.left - 1) % 16) 0)) ∙ ap (with_bits t.shift) none

  pub sends_nothing : ◌≡◌ {A = Sent} (sent t s sccr1) (record { transmitter = t; status = s })
  sends_nothing = sym (shifts t s sccr1 no_turn) ∙ ap with_status_holds stands
    where
      with_status_holds : Transmitter → Sent
      with_status_holds u = record { transmitter = u; status = s }
