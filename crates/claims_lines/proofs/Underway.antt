-- The line under way and the line that waits to be delivered, as an invariant of what has happened so far; and how each goes on. Assumes nothing.
use mathlib.Core.Path.{◌≡◌, refl, ap, sym, ◌∙◌}
use mathlib.Core.Bool.{true, false}
use mathlib.Core.List.{List, [], ◌∷◌, ◌++◌, append-nil, append_assoc}
use mathlib.Core.Option.{Option, some}
use Prim.Native.Nat.{ℕ, ◌+◌}
use native.Mathlib.Omega.{arith}
use lib.ListN.{length}
use Rattle.claims_lines.specs.Happened.{Damage, Happening, word_came}
use Rattle.claims_lines.specs.Segment.{ends, closes, begins_after, inside, letters_of, or_else, cause_from, cause_of, ended_in}
use Rattle.claims_lines.proofs.Account.{Account}
use Rattle.claims_lines.proofs.Causes.{letters_joined, cause_joined, inside_joined, begins_last, ended_joined}

-- The line under way, after what has happened so far.
pub record Open (p : List Happening) (a : Account) : Type 0 where
  pub before : List Happening
  pub body : List Happening
  pub split : p ≡ before ++ body
  pub begins : begins_after before ≡ true
  pub inner : inside body ≡ true
  pub cause : a.cause ≡ cause_from 0 body
  pub letters : a.letters ≡ letters_of body
  pub number : a.number ≡ ended_in p

-- The line that the word w closed, which waits to be delivered.
pub record Closed (p : List Happening) (a : Account) (w : ℕ) : Type 0 where
  pub before : List Happening
  pub body : List Happening
  pub damage : Damage
  pub after : List Happening
  pub split : p ≡ before ++ (body ++ (word_came w damage ∷ after))
  pub begins : begins_after before ≡ true
  pub inner : inside body ≡ true
  pub cause : a.closed_cause ≡ cause_of body damage
  pub letters : a.closed_letters ≡ letters_of body
  pub number : a.number ≡ ended_in (before ++ body)

pub record Inv (p : List Happening) (a : Account) (q : Option ℕ) : Type 0 where
  pub going : Open p a
  pub closed : (w : ℕ) → q ≡ some w → ends w ≡ true → Closed p a w

pub joined_more : (before body : List Happening) (p : List Happening) (e : Happening) → p ≡ before ++ body →
    p ++ (e ∷ []) ≡ before ++ (body ++ (e ∷ []))
joined_more before body p e z = ap (λ (h : List Happening). h ++ (e ∷ [])) z ∙ append_assoc before body (e ∷ [])

closed_more : (before body : List Happening) (c : Happening) (after p : List Happening) (e : Happening) → p ≡ before ++ (body ++ (c ∷ after)) →
    p ++ (e ∷ []) ≡ before ++ (body ++ (c ∷ (after ++ (e ∷ []))))
closed_more before body c after p e z =
    joined_more before (body ++ (c ∷ after)) p e z ∙ ap (λ (h : List Happening). before ++ h) (append_assoc body (c ∷ after) (e ∷ []))

-- Something that neither closes a line nor is a word delivered.
pub ended_none : (p : List Happening) (e : Happening) → ended_in (e ∷ []) ≡ 0 → ended_in (p ++ (e ∷ [])) ≡ ended_in p
ended_none p e z = ended_joined p (e ∷ []) ∙ omega (arith, z)

-- The line under way goes on.
pub open_on : (p : List Happening) (a b : Account) (e : Happening) → closes e ≡ false → Open p a →
    (b.number ≡ a.number + ended_in (e ∷ [])) →
    ((body : List Happening) → a.cause ≡ cause_from 0 body → a.letters ≡ letters_of body →
    (b.cause ≡ or_else (cause_from 0 body) (cause_from (0 + length (letters_of body)) (e ∷ []))) × (b.letters ≡ letters_of body ++ letters_of (e ∷ []))) →
    Open (p ++ (e ∷ [])) b
open_on p a b e c o n k =
    let r = k o.body o.cause o.letters in
    record {
      before = o.before;
      body = o.body ++ (e ∷ []);
      split = joined_more o.before o.body p e o.split;
      begins = o.begins;
      inner = inside_joined o.body (e ∷ []) o.inner (rw c);
      cause = r.0 ∙ sym (cause_joined 0 o.body (e ∷ []));
      letters = r.1 ∙ sym (letters_joined o.body (e ∷ []));
      number = n ∙ rw o.number (sym (ended_joined p (e ∷ [])));
    }

-- A new line begins.
pub open_new : (p : List Happening) (b : Account) (e : Happening) → closes e ≡ true → b.cause ≡ 0 → b.letters ≡ [] →
    b.number ≡ ended_in (p ++ (e ∷ [])) → Open (p ++ (e ∷ [])) b
open_new p b e c z l n =
    record {
      before = p ++ (e ∷ []);
      body = [];
      split = sym (append-nil (p ++ (e ∷ [])));
      begins = begins_last p e ∙ c;
      inner = refl;
      cause = z;
      letters = l;
      number = n;
    }

pub closed_on : (p : List Happening) (a b : Account) (w : ℕ) (e : Happening) → b.closed_cause ≡ a.closed_cause → b.closed_letters ≡ a.closed_letters →
    b.number ≡ a.number → Closed p a w → Closed (p ++ (e ∷ [])) b w
closed_on p a b w e c l n o =
    record {
      before = o.before;
      body = o.body;
      damage = o.damage;
      after = o.after ++ (e ∷ []);
      split = closed_more o.before o.body (word_came w o.damage) o.after p e o.split;
      begins = o.begins;
      inner = o.inner;
      cause = c ∙ o.cause;
      letters = l ∙ o.letters;
      number = n ∙ o.number;
    }
