-- A turn at an access, and a call's refusals. Assumes nothing.
use mathlib.Core.Path.{◌≡◌, refl, sym, ap, ◌∙◌}
use mathlib.Core.Logic.{◌⊎◌, inl, inr}
use mathlib.Core.Bool.{Bool, true, false, cond, not, ◌&&◌, true≢false}
use mathlib.Core.List.{List, [], ◌∷◌}
use Prim.Native.Nat.{ℕ, ◌+◌, ◌-◌, ◌*◌, ◌%◌, ◌^◌, ◌<◌}
use native.Mathlib.Omega.{arith}
use lib.Dec.{eqb, leb}
use lib.ListN.{length, drop, length-drop}
use borrow.Author.Tests.{lt-ltb, le-ltb, lt-leb, le-leb, eq-eqb, ne_eqb}
use Rattle.qsm.specs.model.Decision.{shaped, fits}
use Rattle.qsm.specs.model.Lanes.{in_map, touches}
use Rattle.qsm.specs.declared.event.Access.{Access}
use Rattle.qsm.specs.declared.event.Access.TheVariants.{Read, Write}
use Rattle.qsm.specs.declared.event.Event.TheVariants.{Hold}
use Rattle.qsm.specs.declared.event.Event.TheVariants as event
use Rattle.trace.specs.Trace.{parsed}
use Rattle.trace.specs.declared.Parsed.{Parsed}
use Rattle.trace.specs.declared.Parsed.TheVariants.{Record, Unknown, Cut}
use Rattle.tool_lines.specs.Schedule.{reaches}
use Rattle.tool_lines.specs.Call.{turned, event_on, event_or_stop, record_on, turn, go_for, go_on, called}
use Rattle.tool_lines.specs.declared.line.Outcome.TheVariants.{Ended, Refused}
use Rattle.std.specs.Prelude.{Some, None}
use Rattle.tool_lines.specs.declared.stop.Stop.TheVariants as stop
use Rattle.tool_lines.specs.declared.stop.Refusal.TheVariants.{Period}
use Rattle.tool_lines.specs.declared.Lines.{Lines}
use Rattle.tool_lines.specs.declared.Turned.{Turned}
use Rattle.claims_schedule.specs.Stops.{touching, small, stopped_by10, Meets, Reads, Writes, StandsAt, Others, CallRefusals}
use Rattle.claims_schedule.proofs.Touching.{passing_is}

-- ---- a record that is an access

module _ (period : ℕ) (t : List ℕ) (s : Lines) (idle : s.left ≡ 0) where
  at_record : (a : Access) (n : ℕ) → s.at < length t → parsed (drop s.at t) ≡ Record (event.Access a) n
      → turn period t s ≡ event_or_stop period s (event.Access a) n (cond (reaches a) (Some stop.Access) None)
  unfolding turn
  at_record a n inside is = rw (idle, lt-leb (length t) s.at inside, is)

  by_reach : (a : Access) (n : ℕ) (b : Bool) → turn period t s ≡ event_or_stop period s (event.Access a) n (cond b (Some stop.Access) None) → Meets b period t s
  unfolding event_on
  by_reach a n true is = record { stays = λ h. is; goes_on = λ h. absurd (true≢false h); number = refl }
  by_reach a n false is =
      record { stays = λ h. absurd (true≢false (sym h)); goes_on = λ h. ap (λ (r : Turned). r.outcome) is; number = refl }

  meets : (a : Access) (n : ℕ) (b : Bool) → reaches a ≡ b → s.at < length t → parsed (drop s.at t) ≡ Record (event.Access a) n → Meets b period t s
  meets a n b is inside there =
      by_reach a n b (at_record a n inside there ∙ ap (λ (x : Bool). event_or_stop period s (event.Access a) n (cond x (Some stop.Access) None)) is)

inside_of : (t : List ℕ) (at x : ℕ) (l : List ℕ) → drop at t ≡ x ∷ l → at < length t
inside_of t at x l is = omega (arith, length-drop at t, ap (λ (r : List ℕ). length r) is)

-- ---- reads and writes

grouped : (a b c : Bool) → (a && b) && c ≡ a && (b && c)
grouped true b c = refl
grouped false b c = refl

pub reads : Reads
reads period t s w h l rest idle is =
    meets period t s idle (Read (leb 128 w) (w % 128) (h * 256 + l)) 4 (touching (w % 128) (h * 256 + l))
    (grouped (shaped (w % 128) (h * 256 + l)) (in_map (w % 128) (h * 256 + l)) (touches 0x0C 4 (w % 128) (h * 256 + l)) ∙ passing_is (w % 128) (h * 256 + l))
    (inside_of t s.at 0x03 (w ∷ h ∷ l ∷ rest) is)
    (rw is
    (rw (ne_eqb (length (0x03 ∷ w ∷ h ∷ l ∷ rest)) 0 (λ z. omega (arith, z)), le-ltb (length (0x03 ∷ w ∷ h ∷ l ∷ rest)) 4 (omega arith))))

moved : (a f b c : Bool) → ((a && f) && b) && c ≡ (a && (b && c)) && f
moved true true true true = refl
moved true true true false = refl
moved true true false c = refl
moved true false true true = refl
moved true false true false = refl
moved true false false c = refl
moved false f b c = refl

pub writes : Writes
writes period t s w h l a b c d rest idle is =
    let width = w % 128 in
    let offset = h * 256 + l in
    let value = (a * 256 + b) * 65536 + (c * 256 + d) in
    meets period t s idle (Write (leb 128 w) width offset value) 8 (touching width offset && small width value)
    (moved (shaped width offset) (fits width value) (in_map width offset) (touches 0x0C 4 width offset)
    ∙ ap (λ (x : Bool). x && fits width value) (passing_is width offset))
    (inside_of t s.at 0x04 (w ∷ h ∷ l ∷ a ∷ b ∷ c ∷ d ∷ rest) is)
    (rw is
    (rw (ne_eqb (length (0x04 ∷ w ∷ h ∷ l ∷ a ∷ b ∷ c ∷ d ∷ rest)) 0 (λ z. omega (arith, z)), le-ltb (length (0x04 ∷ w ∷ h ∷ l ∷ a ∷ b ∷ c ∷ d ∷ rest)) 8 (omega arith))))

-- ---- other records

module _ (period : ℕ) (t : List ℕ) (s : Lines) where
  -- A turn at what stands there.
  meeting : (x : ℕ) (l : List ℕ) (p : Parsed) → StandsAt (x ∷ l) t s → parsed (x ∷ l) ≡ p → turn period t s ≡ record_on period s p
  unfolding turn
  meeting x l p at is = rw (at.0, lt-leb (length t) s.at (inside_of t s.at x l at.1), at.1, is)

  past : (pins : ℕ) (rxd : Bool) (n size : ℕ) → 2 ^ 64 - 1 < s.device.clock + n → record_on period s (Record (Hold pins rxd n) size) ≡ turned s stopped_by10
  past pins rxd n size h = rw (lt-ltb (2 ^ 64 - 1) (s.device.clock + n) h)

some_byte : (x : ℕ) (l : List ℕ) → eqb (length (x ∷ l)) 0 ≡ false
some_byte x l = ne_eqb (length (x ∷ l)) 0 (λ z. omega (arith, z))

pub others : Others
others period t s rest =
    record {
      unknown = λ kind at a b c d e.
          meeting period t s kind rest Unknown at (rw (some_byte kind rest, ne_eqb kind 1 a, ne_eqb kind 2 b, ne_eqb kind 3 c, ne_eqb kind 4 d, ne_eqb kind 5 e));
      cut_hold = λ at short.
          meeting period t s 0x02 rest Cut at (rw (some_byte 0x02 rest, lt-ltb (length {A = ℕ} (0x02 ∷ rest)) 5 (omega (arith, short))));
      cut_read = λ at short.
          meeting period t s 0x03 rest Cut at (rw (some_byte 0x03 rest, lt-ltb (length {A = ℕ} (0x03 ∷ rest)) 4 (omega (arith, short))));
      cut_write = λ at short.
          meeting period t s 0x04 rest Cut at (rw (some_byte 0x04 rest, lt-ltb (length {A = ℕ} (0x04 ∷ rest)) 8 (omega (arith, short))));
      cut_long_hold = λ at short.
          meeting period t s 0x05 rest Cut at (rw (some_byte 0x05 rest, lt-ltb (length {A = ℕ} (0x05 ∷ rest)) 7 (omega (arith, short))));
      hold = λ pins rxd h l at over.
          meeting period t s 0x02 (pins ∷ rxd ∷ h ∷ l ∷ rest) (Record (Hold pins (not (eqb rxd 0)) (h * 256 + l)) 5) at
          (rw (some_byte 0x02 (pins ∷ rxd ∷ h ∷ l ∷ rest), le-ltb (length {A = ℕ} (0x02 ∷ pins ∷ rxd ∷ h ∷ l ∷ rest)) 5 (omega arith)))
          ∙ past period t s pins (not (eqb rxd 0)) (h * 256 + l) 5 over;
      long_hold_holds = λ pins rxd a b c d at over.
          meeting period t s 0x05 (pins ∷ rxd ∷ a ∷ b ∷ c ∷ d ∷ rest) (Record (Hold pins (not (eqb rxd 0)) ((a * 256 + b) * 65536 + (c * 256 + d))) 7) at
          (rw (some_byte 0x05 (pins ∷ rxd ∷ a ∷ b ∷ c ∷ d ∷ rest), le-ltb (length {A = ℕ} (0x05 ∷ pins ∷ rxd ∷ a ∷ b ∷ c ∷ d ∷ rest)) 7 (omega arith)))
          ∙ past period t s pins (not (eqb rxd 0)) ((a * 256 + b) * 65536 + (c * 256 + d)) 7 over;
      numbers = (refl, refl, refl);
    }

-- ---- calls

refused_1 : (period : ℕ) (t : List ℕ) (room : ℕ) (s : Lines) → (period ≡ 0) ⊎ (65535 < period) → called period t room s ≡ turned s (Refused Period)
refused_1 period t room s (inl z) = rw (eq-eqb period 0 z)
refused_1 period t room s (inr h) = rw (ne_eqb period 0 (λ z. omega arith), lt-ltb 65535 period h)

ended : (period : ℕ) (s : Lines) → s.left ≡ 0 → go_on period [] s ≡ turned s Ended
unfolding go_on go_for turn
ended period s idle = rw (idle, le-leb 0 s.at (omega arith))

pub call_refusals : CallRefusals
call_refusals period t room s =
    record {
      is_1 = refused_1 period t room s;
      is_7 = λ some most short. rw (ne_eqb period 0 (λ z. omega arith), le-ltb 65535 period most, lt-ltb room 128 short);
      numbers = (refl, refl);
      ends = λ some most long idle.
          rw (ne_eqb period 0 (λ z. omega arith), le-ltb 65535 period most, le-ltb room 128 long) (ended period s idle);
    }
