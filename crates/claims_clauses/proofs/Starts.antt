-- How a start bit begins and stands. Assumes nothing.
use mathlib.Core.Path.{◌≡◌, refl, ap, ◌∙◌}
use mathlib.Core.Bool.{Bool, true, false, cond, not, ◌&&◌, true≢false}
use mathlib.Core.List.{List, [], ◌∷◌}
use Prim.Native.Nat.{ℕ, ◌+◌, ◌<◌}
use native.Mathlib.Omega.{arith}
use lib.Dec.{ltb}
use lib.ListN.{get_or}
use borrow.Author.Tests.{le-ltb}
use Rattle.steps.specs.Bits.{digit}
use Rattle.sci.specs.model.Control.{M, bits_of}
use Rattle.sci.specs.model.Bits.{vote, ones_of}
use Rattle.sci.specs.model.Framer.{begun, searched, start_bit, next_rt, judged, fixed, framed}
use Rattle.sci.specs.model.Receiver.{start_state, receiver_after, received}
use Rattle.sci.specs.claims.Levels.{framer_after}
use Rattle.sci.specs.declared.framer.Framer.{Framer}
use Rattle.sci.specs.declared.receiver.Receiver.{Receiver}
use Rattle.sci.specs.declared.receiver.Received.{Received}
use Rattle.sci.specs.declared.status.Status.{Status}
use Rattle.sci.proofs.Moves.{moving}
use Rattle.claims_clauses.specs.Starts.{hear, from, latest, in_frame, ThreeBefore, opening, StartJudged, StartClauses}

-- ---- the three samples before

abbrev Follows : List Bool → Receiver → Type 0
Follows ys r = (r.last1 ≡ get_or ys 0 false) × (r.last2 ≡ get_or ys 1 false) × (r.last3 ≡ get_or ys 2 false)

follow : (c : ℕ) (xs ys : List Bool) (p : Received) → Follows ys p.receiver → Follows (latest xs ys) (hear c xs p).receiver
unfolding received receiver_after
follow c [] ys p h = h
follow c (x ∷ xs) ys p h = follow c xs (x ∷ ys) (received p.receiver p.status c x) (refl, h.0, h.1)

started : (c : ℕ) (r : Receiver) (s : Status) (xs : List Bool) → Follows (latest xs []) (hear c xs (from (start_state r) s)).receiver
started c r s xs = follow c xs [] (from (start_state r) s) (refl, refl, refl)

-- While it searches.
pick : (b t y : Bool) (a f : Framer) (n : ℕ) → b ≡ false →
    cond b a (searched (not b && t && not y) f n) ≡ cond (t && not y) (begun n) f
pick true t y a f n h = absurd (true≢false h)
pick false true true a f n h = refl
pick false true false a f n h = refl
pick false false y a f n h = refl

pub searches : (n : ℕ) (f : Framer) (three x : Bool) → f.framing ≡ false → framed n f three x ≡ cond (three && not x) (begun n) f
unfolding fixed
searches n f three x h = (moving.rule n f three x).search h ∙ pick f.framing three x _ f n h

framing_of : (t y : Bool) (f : Framer) (n : ℕ) → f.framing ≡ false → (cond (t && not y) (begun n) f).framing ≡ not y && t
framing_of true true f n h = h
framing_of true false f n h = refl
framing_of false true f n h = h
framing_of false false f n h = h

pub begins : (n : ℕ) (f : Framer) (three x : Bool) → f.framing ≡ false → (framed n f three x).framing ≡ not x && three
begins n f three x h = ap (λ (g : Framer). g.framing) (searches n f three x h) ∙ framing_of three x f n h

hears_start : (c : ℕ) (p : Received) (x : Bool) → in_frame p ≡ false →
    in_frame (hear c (x ∷ []) p) ≡ not x && (p.receiver.last1 && p.receiver.last2 && p.receiver.last3)
unfolding received receiver_after
hears_start c p x h = begins (bits_of (M c)) p.receiver.framer _ x h

three_before : (c : ℕ) (r : Receiver) (s : Status) (xs : List Bool) → ThreeBefore c r s xs
three_before c r s xs =
    let f = started c r s xs in
    record {
      first = f.0;
      second = f.1;
      third = f.2;
      starts = λ x h. hears_start c (hear c xs (from (start_state r) s)) x h ∙ rw (f.0, f.1, f.2);
    }

-- ---- the start bit

hear_framer : (c : ℕ) (xs : List Bool) (p : Received) →
    (hear c xs p).receiver.framer
    ≡ framer_after (bits_of (M c)) p.receiver.last1 p.receiver.last2 p.receiver.last3 p.receiver.framer xs
unfolding framer_after received receiver_after
hear_framer c [] p = refl
hear_framer c (x ∷ xs) p = hear_framer c xs (received p.receiver p.status c x)

and_no : (b : Bool) → b && false ≡ false
and_no true = refl
and_no false = refl

-- A one while it searches; the zero after three; a sample of the start bit.
one_more : (n : ℕ) (a b c : Bool) (f : Framer) (xs : List Bool) → f.framing ≡ false →
    framer_after n a b c f (true ∷ xs) ≡ framer_after n true a b f xs
unfolding framer_after
one_more n a b c f xs h =
    ap (λ (g : Framer). framer_after n true a b g xs)
    (searches n f (a && b && c) true h ∙ ap (λ (t : Bool). cond t (begun n) f) (and_no (a && b && c)))

first_zero : (n : ℕ) (f : Framer) (xs : List Bool) → f.framing ≡ false →
    framer_after n true true true f (false ∷ xs) ≡ framer_after n false true true (begun n) xs
unfolding framer_after
first_zero n f xs h = ap (λ (g : Framer). framer_after n false true true g xs) (searches n f true false h)

-- A framer in its start bit.
abbrev starting_at : ℕ → ℕ → Bool → Bool → Framer
starting_at n rt first second =
    record { framing = true; starting = true; left = n; rt = rt; first = first; second = second; noise = 0; moved = false; shift = 0 }

start_sample : (n : ℕ) (a b c : Bool) (rt : ℕ) (u v x : Bool) (xs : List Bool) →
    framer_after n a b c (starting_at n rt u v) (x ∷ xs) ≡ framer_after n x a b (start_bit (starting_at n rt u v) (next_rt (starting_at n rt u v)) x) xs
unfolding framer_after fixed
start_sample n a b c rt u v x xs =
    ap (λ (g : Framer). framer_after n x a b g xs) ((moving.rule n (starting_at n rt u v) (a && b && c) x).start refl)

at_end_holds : (n : ℕ) (a b c : Bool) (f : Framer) → framer_after n a b c f [] ≡ f
unfolding framer_after
at_end_holds n a b c f = refl

module _ (n : ℕ) (x2 x3 x4 x5 x6 x7 : Bool) (f : Framer) (h : f.framing ≡ false) where
  abbrev Judged : Framer
  Judged = judged (vote x3 x5 x7).bit (starting_at n 6 x3 x5) (ones_of x3 x5 x7)

  judging : (a b c : Bool) → framer_after n a b c f (opening x2 x3 x4 x5 x6 x7) ≡ Judged
  unfolding start_bit
  judging a b c =
      one_more n a b c f _ h ∙ one_more n true a b f _ h ∙ one_more n true true a f _ h ∙ first_zero n f _ h
      ∙ start_sample n false true true 1 false false x2 (x3 ∷ x4 ∷ x5 ∷ x6 ∷ x7 ∷ [])
      ∙ start_sample n x2 false true 2 false false x3 (x4 ∷ x5 ∷ x6 ∷ x7 ∷ [])
      ∙ start_sample n x3 x2 false 3 x3 false x4 (x5 ∷ x6 ∷ x7 ∷ [])
      ∙ start_sample n x4 x3 x2 4 x3 false x5 (x6 ∷ x7 ∷ [])
      ∙ start_sample n x5 x4 x3 5 x3 x5 x6 (x7 ∷ [])
      ∙ start_sample n x6 x5 x4 6 x3 x5 x7 []
      ∙ at_end_holds n x7 x6 x5 Judged

-- The eight triples.
record Counted (n : ℕ) (a b c : Bool) (f : Framer) : Type 0 where
  stands : f.framing ≡ ltb (digit a + digit b + digit c) 2
  noise : digit a + digit b + digit c < 2 → f.noise ≡ digit a + digit b + digit c
  at_7 : digit a + digit b + digit c < 2 → f.rt ≡ 7
  starting : digit a + digit b + digit c < 2 → f.starting ≡ true

counted : (n : ℕ) (a b c : Bool) → Counted n a b c (judged (vote a b c).bit (starting_at n 6 a b) (ones_of a b c))
counted n true true true =
    record { stands = refl; noise = λ h. absurd (omega arith); at_7 = λ h. absurd (omega arith); starting = λ h. absurd (omega arith) }
counted n true true false =
    record { stands = refl; noise = λ h. absurd (omega arith); at_7 = λ h. absurd (omega arith); starting = λ h. absurd (omega arith) }
counted n true false true =
    record { stands = refl; noise = λ h. absurd (omega arith); at_7 = λ h. absurd (omega arith); starting = λ h. absurd (omega arith) }
counted n true false false = record { stands = refl; noise = λ h. refl; at_7 = λ h. refl; starting = λ h. refl }
counted n false true true =
    record { stands = refl; noise = λ h. absurd (omega arith); at_7 = λ h. absurd (omega arith); starting = λ h. absurd (omega arith) }
counted n false true false = record { stands = refl; noise = λ h. refl; at_7 = λ h. refl; starting = λ h. refl }
counted n false false true = record { stands = refl; noise = λ h. refl; at_7 = λ h. refl; starting = λ h. refl }
counted n false false false = record { stands = refl; noise = λ h. refl; at_7 = λ h. refl; starting = λ h. refl }

start_judged : (c : ℕ) (p : Received) (x2 x3 x4 x5 x6 x7 : Bool) → in_frame p ≡ false → StartJudged c p x2 x3 x4 x5 x6 x7
unfolding received receiver_after
start_judged c p x2 x3 x4 x5 x6 x7 h =
    let is = hear_framer c (opening x2 x3 x4 x5 x6 x7) p
    ∙ judging (bits_of (M c)) x2 x3 x4 x5 x6 x7 p.receiver.framer h p.receiver.last1 p.receiver.last2 p.receiver.last3 in
    let count = counted (bits_of (M c)) x3 x5 x7 in
    let stands = ap (λ (g : Framer). g.framing) is ∙ count.stands in
    record {
      stands = stands;
      goes_on =
          λ two x8. hears_start c (hear c (opening x2 x3 x4 x5 x6 x7) p) x8
          (stands ∙ le-ltb (digit x3 + digit x5 + digit x7) 2 two);
      noise = λ one. ap (λ (g : Framer). g.noise) is ∙ count.noise one;
      at_7 = λ one. ap (λ (g : Framer). g.rt) is ∙ count.at_7 one;
      starting = λ one. ap (λ (g : Framer). g.starting) is ∙ count.starting one;
    }

pub start_clauses : StartClauses
start_clauses = record { before = three_before; judged = start_judged }
