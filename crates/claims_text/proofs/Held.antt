-- RXD's levels of a text's holds, and that a replay plays holds and polls alone. Assumes nothing.
use mathlib.Core.Path.{◌≡◌, refl, ap, sym, subst, ◌∙◌}
use mathlib.Core.Bool.{Bool, true, false, cond}
use mathlib.Core.List.{List, [], ◌∷◌, ◌++◌, append_assoc, append-nil}
use mathlib.Core.Logic.{inl, inr}
use Prim.Native.Nat.{ℕ, zero, suc, ◌+◌, ◌*◌, ◌/◌, ◌%◌, ◌^◌, ◌<◌, ◌≤◌}
use native.Mathlib.Omega.{arith}
use native.Mathlib.Nat.{mod-lt, mod-eq_of_lt}
use lib.Dec.{eqb, ltb}
use lib.ListN.{length, length-append, drop, replicate}
use borrow.Author.Tests.{ne_eqb, le-ltb, ltb-true}
use Rattle.steps.specs.Bits.{bit}
use Rattle.qsm.specs.model.Event.{clock_limit}
use Rattle.qsm.specs.declared.event.Event.{Event}
use Rattle.qsm.specs.declared.event.Event.TheVariants.{Hold}
use Rattle.trace.specs.Trace.{hold_kind, long_hold_kind}
use Rattle.tool_lines.specs.Schedule.{Act, acts, stopped, followed, Scheduled, next, scheduled_for, scheduled}
use Rattle.tool_lines.proofs.Schedules.{unroll}
use Rattle.tool_assemble.specs.Encode.{record_bytes}
use Rattle.tool_assemble.specs.Sent.{level, edge, bit_clocks, hold_kind_of, bit_hold}
use Rattle.tool_assemble.specs.declared.sent.Sent.{Sent}
use Rattle.claims_assembling.specs.Laws.{Fits}
use Rattle.claims_assembling.specs.Traces.{framed, held, clocks_of}
use Rattle.claims_assembling.proofs.Records.{bytes_give_back}
use Rattle.claims_senders.specs.Fair.{levels, levels_of, line}
use Rattle.claims_senders.specs.Rates.{lasts_at, bits_at}
use Rattle.claims_through.proofs.Levels.{act_levels, Good, hold_good}
use Rattle.claims_through.proofs.Levels as through
use Rattle.claims_through.proofs.Polls.{Quiet, cut_rests}
use Rattle.claims_text.specs.Text.{byte_frame, text_frames}

-- Each bit's hold fits its record.
pub record Sendable (s : Sent) : Type 0 where
  pub pins : s.pins < 256
  pub rate : 0 < s.baud
  pub short : (k : ℕ) → bit_clocks s k < 2 ^ 32

pub drop_first : (xs ys : List ℕ) → drop (length xs) (xs ++ ys) ≡ ys
drop_first [] ys = refl
drop_first (x ∷ xs) ys = drop_first xs ys

some_bytes : (kind pins : ℕ) (rxd : Bool) (n : ℕ) → Fits kind (Hold pins rxd n) → 0 < length (record_bytes kind (Hold pins rxd n))
some_bytes kind pins rxd n (byte, inl (is, small)) = rw is (omega arith)
some_bytes kind pins rxd n (byte, inr (is, small)) = rw is (omega arith)

joined : List (List Bool) → List Bool → List Bool
joined [] ls = ls
joined (x ∷ xs) ls = x ++ joined xs ls

joined_append : (xs : List (List Bool)) (ls : List Bool) → joined xs [] ++ ls ≡ joined xs ls
unfolding joined
joined_append [] ls = refl
joined_append (x ∷ xs) ls = append_assoc x (joined xs []) ls ∙ ap (λ (l : List Bool). x ++ l) (joined_append xs ls)

pub kind_fits : (pins n : ℕ) (rxd b : Bool) → ltb n 65536 ≡ b → pins < 256 → n < 2 ^ 32 → Fits (cond b hold_kind long_hold_kind) (Hold pins rxd n)
kind_fits pins n rxd true e p h = (p, inl (refl, ltb-true n 65536 e))
kind_fits pins n rxd false e p h = (p, inr (refl, h))

pub none_yet : (s : Sent) → clocks_of s 0 ≡ 0
unfolding clocks_of
none_yet s = refl

-- Acts that are holds and polls, of these levels, so many clocks since reset.
pub record Both (c : ℕ) (xs : List Act) (ls : List Bool) : Type 0 where
  pub good : Good c xs ls
  pub quiet : Quiet xs

pub none_both : (c : ℕ) → Both c [] []
unfolding act_levels through.Fits Quiet
none_both c = record { good = record { fits = tt; same = refl }; quiet = tt }

module _ (period : ℕ) (pos : 0 < period) where
  hold_next : (on : ℕ → ℕ → Scheduled) (c since pins n : ℕ) (rxd o : Bool) → o ≡ false →
      (cond (eqb (cond o 10 0) 0) (followed (acts period since (Hold pins rxd n)) (on ((since + n) % period) (c + n))) (stopped (cond o 10 0))).acts
      ≡ acts period since (Hold pins rxd n) ++ (on ((since + n) % period) (c + n)).acts
  hold_next on c since pins n rxd o e = rw e refl

  -- A hold's record, and what follows it.
  pub hold_acts : (kind pins : ℕ) (rxd : Bool) (n since c : ℕ) (t : List ℕ) → Fits kind (Hold pins rxd n) → c + n ≤ clock_limit →
      (scheduled period since c (record_bytes kind (Hold pins rxd n) ++ t)).acts
      ≡ acts period since (Hold pins rxd n) ++ (scheduled period ((since + n) % period) (c + n) t).acts
  hold_acts kind pins rxd n since c t fits room =
      let e : Event = Hold pins rxd n in
      let x : List ℕ = record_bytes kind e in
      let some : 0 < length (x ++ t) = omega (arith, length-append x t, some_bytes kind pins rxd n fits) in
      ap (λ (z : Scheduled). z.acts)
      (unroll period since c (x ++ t) some ∙ ap (next (scheduled period) period since c (x ++ t)) (bytes_give_back kind e t fits).0)
      ∙ hold_next (λ passed now. scheduled period passed now (drop (length x) (x ++ t))) c since pins n rxd (ltb clock_limit (c + n)) (le-ltb clock_limit (c + n) room)
      ∙ ap (λ (u : List ℕ). acts period since e ++ (scheduled period ((since + n) % period) (c + n) u).acts) (drop_first x t)

  pub hold_both : (pins : ℕ) (rxd : Bool) (n since c : ℕ) (xs : List Act) (ls : List Bool) → since < period → c + n ≤ clock_limit → Both (c + n) xs ls →
      Both c (acts period since (Hold pins rxd n) ++ xs) (replicate n rxd ++ ls)
  hold_both pins rxd n since c xs ls lt room b =
      record {
        good = hold_good period pos pins rxd xs ls (suc n) since c n (omega arith) lt room b.good;
        quiet = cut_rests ((since + n) / period) period since pins rxd n xs b.quiet;
      }

  -- A trace that ends so: t₁, from c₁ clocks since reset on, with the levels ls₁.
  module _ (c₁ : ℕ) (t₁ : List ℕ) (ls₁ : List Bool) where
    abbrev pub ending : ℕ → List Act
    ending since = (scheduled period since c₁ t₁).acts

    -- Before its end it plays holds and polls of the levels ls.
    pub record Splits (since c : ℕ) (t : List ℕ) (ls : List Bool) : Type 0 where
      pub first : List Act
      pub passed : ℕ
      pub within : passed < period
      pub is : (scheduled period since c t).acts ≡ first ++ ending passed
      pub part : Both c first ls
      pub whole : Both c (first ++ ending passed) (ls ++ ls₁)

    abbrev pub HeldAs : ℕ → List ℕ → List Bool → Type 0
    HeldAs c t ls = (since : ℕ) → since < period → Splits since c t ls

    pub end_as : ((since : ℕ) → since < period → Both c₁ (ending since) ls₁) → HeldAs c₁ t₁ []
    end_as f since lt = record { first = []; passed = since; within = lt; is = refl; part = none_both c₁; whole = f since lt }

    pub record_as : (kind pins : ℕ) (rxd : Bool) (n c : ℕ) (t : List ℕ) (ls : List Bool) → Fits kind (Hold pins rxd n) → c + n ≤ clock_limit →
        HeldAs (c + n) t ls → HeldAs c (record_bytes kind (Hold pins rxd n) ++ t) (replicate n rxd ++ ls)
    record_as kind pins rxd n c t ls fits room h since lt =
        let s' : ℕ = (since + n) % period in
        let b : Splits s' (c + n) t ls = h s' (mod-lt (since + n) pos) in
        let xs : List Act = acts period since (Hold pins rxd n) in
        let ys : List Act = ending b.passed in
        record {
          first = xs ++ b.first;
          passed = b.passed;
          within = b.within;
          is =
              hold_acts kind pins rxd n since c t fits room ∙ ap (λ (zs : List Act). xs ++ zs) b.is
              ∙ sym (append_assoc xs b.first ys);
          part = hold_both pins rxd n since c b.first ls lt room b.part;
          whole =
              subst (λ (zs : List Act). Both c zs ((replicate n rxd ++ ls) ++ ls₁)) (sym (append_assoc xs b.first ys))
              (subst (Both c (xs ++ (b.first ++ ys))) (sym (append_assoc (replicate n rxd) ls ls₁))
              (hold_both pins rxd n since c (b.first ++ ys) (ls ++ ls₁) lt room b.whole));
        }

    module _ (s : Sent) (ok : Sendable s) (base : ℕ) where
      abbrev pub at : ℕ → ℕ
      at j = base + clocks_of s j

      abbrev lasts : ℕ → ℕ
      lasts j = lasts_at s.clock s.baud (s.baud / 2) j

      lasts_are : (j : ℕ) → bit_clocks s j ≡ lasts j
      unfolding edge
      lasts_are j = let z : 0 < s.baud = ok.rate in rw (ne_eqb s.baud 0 (λ e. omega arith)) refl

      bit_as : (b i j : ℕ) (t : List ℕ) (ls : List Bool) → at (suc j) ≤ clock_limit → HeldAs (at (suc j)) t ls →
          HeldAs (at j) (record_bytes (bit_hold s b i j).kind (bit_hold s b i j).event ++ t) (replicate (lasts j) (level b i) ++ ls)
      unfolding clocks_of
      bit_as b i j t ls room h =
          let n : ℕ = bit_clocks s j in
          let fit : n < 2 ^ 32 = ok.short j in
          let whole : n % 4294967296 ≡ n = mod-eq_of_lt fit in
          let c : base + (clocks_of s j + n) ≡ base + clocks_of s j + n = omega arith in
          subst (λ (z : ℕ). HeldAs (at j) (record_bytes (hold_kind_of n) (Hold s.pins (level b i) z) ++ t) (replicate (lasts j) (level b i) ++ ls)) (sym whole)
          (subst (λ (z : ℕ). HeldAs (at j) (record_bytes (hold_kind_of n) (Hold s.pins (level b i) n) ++ t) (replicate z (level b i) ++ ls)) (lasts_are j)
          (record_as (hold_kind_of n) s.pins (level b i) n (at j) t ls (kind_fits s.pins n (level b i) (ltb n 65536) refl ok.pins fit)
          (subst (λ (z : ℕ). z ≤ clock_limit) c room) (subst (λ (z : ℕ). HeldAs z t ls) c h)))

      mono : (i j : ℕ) → clocks_of s i ≤ clocks_of s (i + j)
      unfolding clocks_of
      mono i zero = let e : i + 0 ≡ i = omega arith in rw e (omega arith)
      mono i (suc j) = let e : i + suc j ≡ suc (i + j) = omega arith in rw e (omega (arith, mono i j))

      -- The levels of the first i bits of a byte, before others.
      pre : ℕ → ℕ → ℕ → List Bool → List Bool
      pre b k zero ls = ls
      pre b k (suc i) ls = pre b k i (replicate (lasts (k + i)) (level b i) ++ ls)

      byte_as : (b k i : ℕ) (t : List ℕ) (ls : List Bool) → at (k + i) ≤ clock_limit → HeldAs (at (k + i)) t ls →
          HeldAs (at k) (framed s b k i ++ t) (pre b k i ls)
      unfolding framed pre
      byte_as b k zero t ls room h = let e : k + 0 ≡ k = omega arith in subst (λ (z : ℕ). HeldAs (at z) t ls) e h
      byte_as b k (suc i) t ls room h =
          let e : k + suc i ≡ suc (k + i) = omega arith in
          let r : List ℕ = record_bytes (bit_hold s b i (k + i)).kind (bit_hold s b i (k + i)).event in
          let e' : k + i + 1 ≡ k + suc i = omega arith in
          let few : clocks_of s (k + i) ≤ clocks_of s (k + suc i) = subst (λ (z : ℕ). clocks_of s (k + i) ≤ clocks_of s z) e' (mono (k + i) 1) in
          subst (λ (u : List ℕ). HeldAs (at k) u (pre b k (suc i) ls)) (sym (append_assoc (framed s b k i) r t))
          (byte_as b k i (r ++ t) (replicate (lasts (k + i)) (level b i) ++ ls) (omega (arith, few, room))
          (bit_as b i (k + i) t ls (subst (λ (z : ℕ). at z ≤ clock_limit) e room) (subst (λ (z : ℕ). HeldAs (at z) t ls) e h)))

      -- A byte's ten lengths.
      shape : (n₀ n₁ n₂ n₃ n₄ n₅ n₆ n₇ n₈ n₉ b : ℕ) → List (List Bool)
      shape n₀ n₁ n₂ n₃ n₄ n₅ n₆ n₇ n₈ n₉ b =
          replicate n₀ false ∷ replicate n₁ (bit 0 b) ∷ replicate n₂ (bit 1 b) ∷ replicate n₃ (bit 2 b) ∷ replicate n₄ (bit 3 b)
          ∷ replicate n₅ (bit 4 b) ∷ replicate n₆ (bit 5 b) ∷ replicate n₇ (bit 6 b) ∷ replicate n₈ (bit 7 b) ∷ replicate n₉ true ∷ []

      byte_levels : (b k : ℕ) (ls : List Bool) → pre b k 10 ls ≡ levels_of (byte_frame s k b) ++ ls
      unfolding pre shape joined levels bits_at
      byte_levels b k ls =
          (λ j. joined (shape (q₀ j) (lasts (k + 1)) (q₂ j) (q₃ j) (q₄ j) (q₅ j) (q₆ j) (q₇ j) (q₈ j) (q₉ j) b) ls)
          ∙ sym (joined_append (shape (lasts k) (lasts (k + 1)) (lasts (k + 1 + 1)) (lasts (k + 1 + 1 + 1)) (lasts (k + 1 + 1 + 1 + 1))
          (lasts (k + 1 + 1 + 1 + 1 + 1)) (lasts (k + 1 + 1 + 1 + 1 + 1 + 1)) (lasts (k + 1 + 1 + 1 + 1 + 1 + 1 + 1))
          (lasts (k + 1 + 1 + 1 + 1 + 1 + 1 + 1 + 1)) (lasts (k + 1 + 8) + 0) b) ls)
        where
          q₀ : lasts (k + 0) ≡ lasts k
          q₀ = let e : k + 0 ≡ k = omega arith in ap lasts e

          q₂ : lasts (k + 2) ≡ lasts (k + 1 + 1)
          q₂ = let e : k + 2 ≡ k + 1 + 1 = omega arith in ap lasts e

          q₃ : lasts (k + 3) ≡ lasts (k + 1 + 1 + 1)
          q₃ = let e : k + 3 ≡ k + 1 + 1 + 1 = omega arith in ap lasts e

          q₄ : lasts (k + 4) ≡ lasts (k + 1 + 1 + 1 + 1)
          q₄ = let e : k + 4 ≡ k + 1 + 1 + 1 + 1 = omega arith in ap lasts e

          q₅ : lasts (k + 5) ≡ lasts (k + 1 + 1 + 1 + 1 + 1)
          q₅ = let e : k + 5 ≡ k + 1 + 1 + 1 + 1 + 1 = omega arith in ap lasts e

          q₆ : lasts (k + 6) ≡ lasts (k + 1 + 1 + 1 + 1 + 1 + 1)
          q₆ = let e : k + 6 ≡ k + 1 + 1 + 1 + 1 + 1 + 1 = omega arith in ap lasts e

          q₇ : lasts (k + 7) ≡ lasts (k + 1 + 1 + 1 + 1 + 1 + 1 + 1)
          q₇ = let e : k + 7 ≡ k + 1 + 1 + 1 + 1 + 1 + 1 + 1 = omega arith in ap lasts e

          q₈ : lasts (k + 8) ≡ lasts (k + 1 + 1 + 1 + 1 + 1 + 1 + 1 + 1)
          q₈ = let e : k + 8 ≡ k + 1 + 1 + 1 + 1 + 1 + 1 + 1 + 1 = omega arith in ap lasts e

          q₉ : lasts (k + 9) ≡ lasts (k + 1 + 8) + 0
          q₉ =
              let e : k + 9 ≡ k + 1 + 8 = omega arith in
              let z : lasts (k + 1 + 8) ≡ lasts (k + 1 + 8) + 0 = omega arith in
              ap lasts e ∙ z

      pub text_as : (bs : List ℕ) (k : ℕ) (t : List ℕ) → at (k + 10 * length bs) ≤ clock_limit → HeldAs (at (k + 10 * length bs)) t [] →
          HeldAs (at k) (held s k bs ++ t) (line (text_frames s k bs))
      unfolding held line text_frames
      text_as [] k t room h = let e : k + 10 * 0 ≡ k = omega arith in subst (λ (z : ℕ). HeldAs (at z) t []) e h
      text_as (b ∷ bs) k t room h =
          let n : ℕ = length bs in
          let e : k + 10 * suc n ≡ k + 10 + 10 * n = omega arith in
          let more : at (k + 10 + 10 * n) ≤ clock_limit = subst (λ (z : ℕ). at z ≤ clock_limit) e room in
          let u : List ℕ = held s (k + 10) bs ++ t in
          subst (λ (z : List ℕ). HeldAs (at k) z (line (text_frames s k (b ∷ bs)))) (sym (append_assoc (framed s b k 10) (held s (k + 10) bs) t))
          (subst (HeldAs (at k) (framed s b k 10 ++ u)) (byte_levels b k (line (text_frames s (k + 10) bs)))
          (byte_as b k 10 u (line (text_frames s (k + 10) bs)) (omega (arith, more, mono (k + 10) (10 * n)))
          (text_as bs (k + 10) t more (subst (λ (z : ℕ). HeldAs (at z) t []) e h))))

  -- A text alone.
  pub text_both : (s : Sent) → Sendable s → (base : ℕ) (bs : List ℕ) (since : ℕ) → since < period → base + clocks_of s (10 * length bs) ≤ clock_limit →
      Both base (scheduled period since base (held s 0 bs)).acts (line (text_frames s 0 bs))
  unfolding scheduled_for
  text_both s ok base bs since lt room =
      let first_bit : clocks_of s 0 ≡ 0 = none_yet s in
      let start : base + clocks_of s 0 ≡ base = omega (arith, first_bit) in
      let n : 0 + 10 * length bs ≡ 10 * length bs = omega arith in
      let c₁ : ℕ = base + clocks_of s (0 + 10 * length bs) in
      let r : Splits c₁ [] [] since base (held s 0 bs ++ []) (line (text_frames s 0 bs)) =
      subst (λ (c : ℕ). Splits c₁ [] [] since c (held s 0 bs ++ []) (line (text_frames s 0 bs))) start
      (text_as c₁ [] [] s ok base bs 0 [] (subst (λ (k : ℕ). base + clocks_of s k ≤ clock_limit) (sym n) room)
      (end_as c₁ [] [] (λ q l. none_both c₁)) since lt) in
      subst (λ (t : List ℕ). Both base (scheduled period since base t).acts (line (text_frames s 0 bs))) (append-nil (held s 0 bs))
      (subst (λ (xs : List Act). Both base xs (line (text_frames s 0 bs))) (sym r.is)
      (subst (Both base (r.first ++ [])) (append-nil (line (text_frames s 0 bs))) r.whole))
