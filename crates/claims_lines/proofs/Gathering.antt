-- A poll that delivers a word: what it makes of the line is what the account has of it. Assumes nothing.
use mathlib.Core.Path.{◌≡◌, refl, ap, sym, subst, ◌∙◌}
use mathlib.Core.Bool.{Bool, true, false, cond, true≢false, false≢true}
use mathlib.Core.List.{List, [], ◌∷◌, ◌++◌}
use Prim.Native.Nat.{ℕ, ◌+◌, ◌%◌, ◌≤◌, ◌<◌, min}
use native.Mathlib.Omega.{arith}
use native.Mathlib.Numerals.{add-one}
use lib.Dec.{eqb, ltb}
use lib.ListN.{length, take, set, length-set, length-append}
use lib.Seq.{take-suc-set}
use borrow.Author.Tests.{eqb-true, eqb-false, ltb-true}
use Rattle.steps.specs.Bits.{bit}
use Rattle.tool_lines.specs.Gather.{Report, handed, dropped, most, too_long, overrun, caused, typed, following, ended, goes_on, shown, reported}
use Rattle.tool_lines.specs.Gather as gather
use Rattle.tool_lines.specs.declared.line.Line.{Line}
use Rattle.tool_lines.specs.declared.line.Gathered.{Gathered}
use Rattle.tool_lines.specs.declared.line.Outcome.TheVariants.{Handed, Dropped}
use Rattle.claims_lines.specs.Happened.{Damage, word_delivered}
use Rattle.claims_lines.specs.Segment.{ends, or_else, damaged, numbered}
use Rattle.claims_lines.proofs.Account.{Account, closing, growing, touched, counted, report, next, tells}
use Rattle.claims_lines.proofs.Stands.{Match, pended}

-- The first cause.
pub or_none : (c : ℕ) → or_else c 0 ≡ c
or_none c = go (eqb c 0) refl
  where
    go : (b : Bool) → eqb c 0 ≡ b → cond b 0 c ≡ c
    go true e = sym (eqb-true c 0 e)
    go false e = refl

pub or_left : (c d : ℕ) → or_else c d ≡ 0 → c ≡ 0
or_left c d = go (eqb c 0) refl
  where
    go : (b : Bool) → eqb c 0 ≡ b → cond b d c ≡ 0 → c ≡ 0
    go true e f = eqb-true c 0 e
    go false e f = f

pub or_right : (c d : ℕ) → or_else c d ≡ 0 → d ≡ 0
or_right c d = go (eqb c 0) refl
  where
    go : (b : Bool) → eqb c 0 ≡ b → cond b d c ≡ 0 → d ≡ 0
    go true e f = f
    go false e f = absurd (eqb-false c 0 e f)

-- OR's cause stays, whatever was before.
not_touched : (c : ℕ) → or_else c overrun ≡ 0 → ⊥
not_touched c e = omega (arith, or_right c overrun e)

touched_match : (over : Bool) (l : Line) (a : Account) → Match l a → Match (cond over (caused l overrun) l) (cond over (touched a) a)
touched_match false l a m = m
touched_match true l a m =
    record {
      number = m.number;
      cause = ap (λ (c : ℕ). or_else c overrun) m.cause;
      size = m.size;
      few = m.few;
      letters = λ e. absurd (not_touched a.cause e);
    }

-- A character more.
module _ (l : Line) (a : Account) (m : Match l a) (c : ℕ) (d : Damage) where
  abbrev why : ℕ
  why = or_else l.cause (damaged d)

  abbrev why' : ℕ
  why' = or_else a.cause (damaged d)

  abbrev line : Bool → Line
  line fits =
      cond fits
      (record { number = l.number; cause = why; count = l.count + 1; characters = set l.characters l.count c })
      (record { number = l.number; cause = or_else why too_long; count = l.count; characters = l.characters })

  same_why : why ≡ why'
  same_why = ap (λ (z : ℕ). or_else z (damaged d)) m.cause

  line_number : (b : Bool) → (line b).number ≡ l.number
  line_number true = refl
  line_number false = refl

  line_size : (b : Bool) → length (line b).characters ≡ most
  line_size true = length-set l.characters l.count c ∙ m.size
  line_size false = m.size

  line_few : (b : Bool) → ltb l.count most ≡ b → (line b).count ≤ most
  line_few true e = omega (arith, ltb-true l.count most e)
  line_few false e = m.few

  -- While there is no cause the two count alike.
  same_cause : (b b' : Bool) → (why ≡ 0 → b ≡ b') → (line b).cause ≡ or_else why' (cond b' 0 too_long)
  same_cause b b' f = subst (λ (z : ℕ). (line b).cause ≡ or_else z (cond b' 0 too_long)) same_why (go b b' (eqb why 0) refl f)
    where
      go : (b b' t : Bool) → eqb why 0 ≡ t → (why ≡ 0 → b ≡ b') → (line b).cause ≡ cond t (cond b' 0 too_long) why
      go true true true e f = eqb-true why 0 e
      go false false true e f = rw e
      go true false true e f = absurd (true≢false (f (eqb-true why 0 e)))
      go false true true e f = absurd (false≢true (f (eqb-true why 0 e)))
      go true b' false e f = refl
      go false b' false e f = rw e

  count_alike : why ≡ 0 → l.count ≡ length a.letters
  count_alike e = (m.letters (sym m.cause ∙ or_left l.cause (damaged d) e)).0

  more_letters : (b : Bool) → ltb l.count most ≡ b → (line b).cause ≡ 0 →
      ((line b).count ≡ length (a.letters ++ (c ∷ []))) × (take (line b).count (line b).characters ≡ a.letters ++ (c ∷ []))
  more_letters true e z =
      let k = m.letters (sym m.cause ∙ or_left l.cause (damaged d) z) in
      let h : l.count < length l.characters = omega (arith, m.size, ltb-true l.count most e) in (
        omega (arith, k.0, length-append a.letters (c ∷ [])),
        rw (add-one l.count, take-suc-set l.characters l.count c h, k.1),
      )
  more_letters false e z = absurd (omega (arith, or_right why too_long z))

  typed_match : Match (typed (caused l (damaged d)) c) (growing a c d)
  typed_match =
      let b : Bool = ltb l.count most in
      let z : (line b).cause ≡ (growing a c d).cause =
      same_cause b (ltb (length a.letters) most) (λ e. ap (λ (k : ℕ). ltb k most) (count_alike e)) in
      record {
        number = line_number b ∙ m.number;
        cause = z;
        size = line_size b;
        few = line_few b refl;
        letters = λ e. more_letters b refl (z ∙ e);
      }

  -- The end of a line.
  following_match : Match (following (caused l (damaged d))) (counted (closing a d))
  following_match =
      record {
        number = omega (arith, m.number);
        cause = refl;
        size = m.size;
        few = omega arith;
        letters = λ e. (refl, refl);
      }

  ended_report : (l' : Line) → l'.characters ≡ l.characters →
      reported l' (ended (caused l (damaged d))).outcome ≡ report (closing a d) ∷ []
  ended_report l' e =
      ap (λ (z : ℕ). reported l' (cond (eqb z 0) (Handed l.number (min l.count most)) (Dropped l.number z))) same_why
      ∙ go (eqb why' 0) refl
    where
      go : (b : Bool) → eqb why' 0 ≡ b →
          reported l' (cond b (Handed l.number (min l.count most)) (Dropped l.number why'))
          ≡ cond b (handed (numbered a.number) a.letters) (dropped (numbered a.number) why') ∷ []
      go true f =
          let k = m.letters (or_left a.cause (damaged d) (eqb-true why' 0 f)) in
          let n : min l.count most ≡ l.count = omega (arith, m.few) in
          rw (e, n, k.1, m.number)
      go false f = rw m.number

-- What a poll shows with a word that waits.
pub record Shows (status : ℕ) (d : Damage) (over : Bool) : Type 0 where
  pub rdrf : bit 6 status ≡ true
  pub or : bit 3 status ≡ over
  pub fe : bit 1 status ≡ d.fe
  pub pf : bit 0 status ≡ d.pf
  pub nf : bit 2 status ≡ d.nf

pub record Agrees (g : Gathered) (rs : List Report) (a : Account) : Type 0 where
  pub match : Match g.line a
  pub told : reported g.line g.outcome ≡ rs

module _ (l : Line) (a : Account) (m : Match l a) (w : ℕ) (d : Damage) where
  abbrev put : Bool → Gathered
  put b = cond b (ended (caused l (damaged d))) (goes_on (typed (caused l (damaged d)) (w % 128)))

  abbrev arrived : Bool → Account
  arrived b = cond b (closing a d) (growing a (w % 128) d)

  abbrev held : Bool → Bool → Account
  held over b = cond over (touched (arrived b)) (arrived b)

  put_agrees : (over b : Bool) →
      Agrees (gather.touched over (put b)) (cond b (report (held over b) ∷ []) []) (cond b (counted (held over b)) (held over b))
  put_agrees true true =
      record {
        match = touched_match true (following (caused l (damaged d))) (counted (closing a d)) (following_match l a m (w % 128) d);
        told = ended_report l a m (w % 128) d (caused (following (caused l (damaged d))) overrun) refl;
      }
  put_agrees false true =
      record { match = following_match l a m (w % 128) d; told = ended_report l a m (w % 128) d (following (caused l (damaged d))) refl }
  put_agrees true false =
      record {
        match = touched_match true (typed (caused l (damaged d)) (w % 128)) (growing a (w % 128) d) (typed_match l a m (w % 128) d);
        told = refl;
      }
  put_agrees false false = record { match = typed_match l a m (w % 128) d; told = refl }

  pub word_noticed : (over : Bool) (status : ℕ) → Shows status d over →
      Agrees (shown l status w) (tells (pended a w d over) (word_delivered w)) (next (pended a w d over) (word_delivered w))
  unfolding shown
  word_noticed over status s =
      rw (s.rdrf, s.or, s.fe, s.pf, s.nf) (put_agrees over (ends w))

-- A poll with nothing waiting.
pub none_noticed : (l : Line) (a : Account) (status word : ℕ) → Match l a → bit 6 status ≡ false → bit 3 status ≡ false →
    Agrees (shown l status word) [] a
unfolding shown
none_noticed l a status word m e f = rw (e, f) (record { match = m; told = refl })
