-- Every report of the account is of a line on RXD: the invariant is kept by each thing that happens. Assumes nothing.
use mathlib.Core.Path.{◌≡◌, refl, ap, sym, subst, ◌∙◌}
use mathlib.Core.Bool.{Bool, true, false, cond, true≢false}
use mathlib.Core.List.{List, [], ◌∷◌, ◌++◌, append-nil, append_assoc}
use mathlib.Core.Option.{Option, none, some}
use Prim.Native.Nat.{ℕ, ◌+◌, ◌%◌}
use native.Mathlib.Omega.{arith}
use lib.Dec.{eqb, ltb}
use lib.ListN.{length}
use borrow.Author.Tests.{eqb-true}
use Rattle.tool_lines.specs.Gather.{handed, dropped, most, too_long, overrun}
use Rattle.claims_lines.specs.Happened.{Damage, Happening, frame_lost, word_came, status_read, word_delivered, was_reset}
use Rattle.claims_lines.specs.Segment.{ends, letters_of, or_else, damaged, cause_from, cause_of, ended_in, numbered, Line}
use Rattle.claims_lines.specs.Claims.{Told}
use Rattle.claims_lines.proofs.Account.{Account, fresh, closing, growing, came, touched, counted, restarted, report, next}
use Rattle.claims_lines.proofs.Gathering.{or_none, or_left, or_right}
use Rattle.claims_lines.proofs.Causes.{or_joined, undamaged, Whole, no_cause}
use Rattle.claims_lines.proofs.Underway.{Open, Closed, Inv, joined_more, ended_none, open_on, open_new, closed_on}

-- ---- one thing more happens

some_same : (v w : ℕ) → some w ≡ some v → v ≡ w
some_same v w e = cc

not_some : (v : ℕ) → none ≡ some v → ⊥
not_some v e = let z : ◌≡◌ {A = ℕ} 0 1 = cc in omega arith

pub first_inv : Inv [] fresh none
first_inv =
    record {
      going =
          record { before = []; body = []; split = refl; begins = refl; inner = refl; cause = refl; letters = refl; number = refl };
      closed = λ w e f. absurd (not_some w e);
    }

pub inv_lost : (p : List Happening) (a : Account) (q : Option ℕ) (raises : Bool) → Inv p a q → Inv (p ++ (frame_lost raises ∷ [])) (touched a) q
inv_lost p a q raises i =
    record {
      going =
          open_on p a (touched a) (frame_lost raises) refl i.going (omega arith)
          (λ body c l. (ap (λ (z : ℕ). or_else z overrun) c, l ∙ sym (append-nil (letters_of body))));
      closed = λ w e f. closed_on p a (touched a) w (frame_lost raises) refl refl refl (i.closed w e f);
    }

pub inv_status : (p : List Happening) (a : Account) (q : Option ℕ) → Inv p a q → Inv (p ++ (status_read ∷ [])) a q
inv_status p a q i =
    record {
      going =
          open_on p a a status_read refl i.going (omega arith)
          (λ body c l. (c ∙ sym (or_none (cause_from 0 body)), l ∙ sym (append-nil (letters_of body))));
      closed = λ w e f. closed_on p a a w status_read refl refl refl (i.closed w e f);
    }

pub inv_delivered : (p : List Happening) (a : Account) (q : Option ℕ) (v : ℕ) → Inv p a q → Inv (p ++ (word_delivered v ∷ [])) (next a (word_delivered v)) none
inv_delivered p a q v i =
    record {
      going =
          open_on p a (next a (word_delivered v)) (word_delivered v) refl i.going (count (ends v))
          (λ body c l. (same_cause (ends v) ∙ c ∙ sym (or_none (cause_from 0 body)), same_letters (ends v) ∙ l ∙ sym (append-nil (letters_of body))));
      closed = λ w e f. absurd (not_some w e);
    }
  where
    count : (b : Bool) → (cond b (counted a) a).number ≡ a.number + cond b 1 0
    count true = omega arith
    count false = omega arith

    same_cause : (b : Bool) → (cond b (counted a) a).cause ≡ a.cause
    same_cause true = refl
    same_cause false = refl

    same_letters : (b : Bool) → (cond b (counted a) a).letters ≡ a.letters
    same_letters true = refl
    same_letters false = refl

pub inv_reset : (p : List Happening) (a : Account) (q : Option ℕ) → Inv p a q → Inv (p ++ (was_reset ∷ [])) (restarted a) none
inv_reset p a q i =
    record {
      going = open_new p (restarted a) was_reset refl refl refl (i.going.number ∙ sym (ended_none p was_reset refl));
      closed = λ w e f. absurd (not_some w e);
    }

-- A word that ends the line, and one that doesn't.
inv_closing : (p : List Happening) (a : Account) (w : ℕ) (d : Damage) → ends w ≡ true → Inv p a none →
    Inv (p ++ (word_came w d ∷ [])) (closing a d) (some w)
inv_closing p a w d e i =
    let o : Open p a = i.going in
    let k : Closed (p ++ (word_came w d ∷ [])) (closing a d) w =
    record {
      before = o.before;
      body = o.body;
      damage = d;
      after = [];
      split = joined_more o.before o.body p (word_came w d) o.split;
      begins = o.begins;
      inner = o.inner;
      cause = ap (λ (z : ℕ). or_else z (damaged d)) o.cause;
      letters = o.letters;
      number = o.number ∙ ap ended_in o.split;
    } in
    record {
      going = open_new p (closing a d) (word_came w d) e refl refl (o.number ∙ sym (ended_none p (word_came w d) refl));
      closed = λ v z f. subst (λ (u : ℕ). Closed (p ++ (word_came w d ∷ [])) (closing a d) u) (sym (some_same v w z)) k;
    }

grown : (c l : ℕ) (k n : ℕ) → k ≡ n → or_else (or_else c l) (cond (ltb k most) 0 too_long) ≡ or_else c (or_else l (or_else (cond (ltb n most) 0 too_long) 0))
grown c l k n e = rw e (or_joined c l (cond (ltb n most) 0 too_long) ∙ rw (or_none (cond (ltb n most) 0 too_long)))

inv_growing : (p : List Happening) (a : Account) (w : ℕ) (d : Damage) → ends w ≡ false → Inv p a none →
    Inv (p ++ (word_came w d ∷ [])) (growing a (w % 128) d) (some w)
inv_growing p a w d e i =
    record {
      going =
          open_on p a (growing a (w % 128) d) (word_came w d) e i.going (omega arith)
          (λ body c l. (
            rw c (grown (cause_from 0 body) (damaged d) (length a.letters) (0 + length (letters_of body)) (rw l (omega arith))),
            ap (λ (z : List ℕ). z ++ (w % 128 ∷ [])) l,
          ));
      closed = λ v z f. absurd (true≢false (sym f ∙ ap ends (some_same v w z) ∙ e));
    }

pub inv_came : (p : List Happening) (a : Account) (w : ℕ) (d : Damage) → Inv p a none → Inv (p ++ (word_came w d ∷ [])) (came a w d) (some w)
inv_came p a w d i = go (ends w) refl
  where
    go : (b : Bool) → ends w ≡ b → Inv (p ++ (word_came w d ∷ [])) (cond b (closing a d) (growing a (w % 128) d)) (some w)
    go true e = inv_closing p a w d e i
    go false e = inv_growing p a w d e i

-- ---- what is told

pub told_report : (p h : List Happening) (a : Account) (w : ℕ) → ends w ≡ true → Closed p a w → Told (p ++ h) (report a)
told_report p h a w e c =
    let line : Line (p ++ h) =
    record {
      before = c.before;
      body = c.body;
      last = w;
      damage = c.damage;
      after = c.after ++ h;
      split =
          ap (λ (k : List Happening). k ++ h) c.split ∙ append_assoc c.before (c.body ++ (word_came w c.damage ∷ c.after)) h
          ∙ ap (λ (k : List Happening). c.before ++ k) (append_assoc c.body (word_came w c.damage ∷ c.after) h);
      begins = c.begins;
      inner = c.inner;
      end = e;
    } in
    go line refl refl refl (eqb a.closed_cause 0) refl
  where
    go : (line : Line (p ++ h)) → line.before ≡ c.before → line.body ≡ c.body → line.damage ≡ c.damage →
        (b : Bool) → eqb a.closed_cause 0 ≡ b →
        Told (p ++ h) (cond b (handed (numbered a.number) a.closed_letters) (dropped (numbered a.number) a.closed_cause))
    go line x y z true f =
        let n : cause_of line.body line.damage ≡ 0 = rw (y, z) (sym c.cause ∙ eqb-true a.closed_cause 0 f) in
        let r : Whole 0 line.body = no_cause 0 line.body (omega arith) (or_left (cause_from 0 line.body) (damaged line.damage) n) in
        let l : letters_of line.body ≡ a.closed_letters = rw y (sym c.letters) in
        record {
          line = line;
          letters = l;
          whole = r.whole;
          undamaged = undamaged line.damage (or_right (cause_from 0 line.body) (damaged line.damage) n);
          short = omega (arith, r.short, ap length l);
          numbers = ap numbered c.number ∙ rw (x, y);
        }
    go line x y z false f =
        let n : cause_of line.body line.damage ≡ a.closed_cause = rw (y, z) (sym c.cause) in
        record {
          line = line;
          report = rw (n, f);
          numbers = ap numbered c.number ∙ rw (x, y);
        }
