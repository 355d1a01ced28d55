-- What a list of marks says by an automaton of two bools. `owed`: a loss raised OR and no status read came since. `open`: a run of losses
-- is open.
use mathlib.Core.Path.{◌≡◌, refl, ap, sym, subst, ◌∙◌}
use mathlib.Core.Bool.{Bool, true, false, ◌||◌, true≢false, false≢true}
use mathlib.Core.List.{List, [], ◌∷◌, ◌++◌, append_assoc}
use Prim.Native.Nat.{ℕ}
use Rattle.sci.specs.claims.Overrun.{Mark, frame_lost, word_came, status_read, word_delivered, was_reset, has_reset, has_status_read, one_run, open_run, Overrun}

-- The first loss of a run raises OR; with a debt no word comes.
abbrev pub Okay : Bool → Bool → List Mark → Type 0
Okay owed opn [] = Unit {0}
Okay owed opn (frame_lost raises ∷ h) = (opn ≡ false → raises ≡ true) × Okay (raises || owed) true h
Okay owed opn (word_came w ∷ h) = (owed ≡ false) × Okay owed false h
Okay owed opn (status_read ∷ h) = Okay false opn h
Okay owed opn (word_delivered w ∷ h) = Okay owed opn h
Okay owed opn (was_reset ∷ h) = Okay false false h

-- From a debt on, a word comes only after a status read.
blocks : (b c h : List Mark) (w : ℕ) (opn : Bool) → Okay true opn (b ++ (word_came w ∷ h)) → has_reset b ≡ false →
    has_status_read (b ++ c) ≡ true
blocks [] c h w opn k e = absurd (true≢false k.0)
blocks (frame_lost true ∷ b) c h w opn k e = blocks b c h w true k.1 e
blocks (frame_lost false ∷ b) c h w opn k e = blocks b c h w true k.1 e
blocks (word_came v ∷ b) c h w opn k e = absurd (true≢false k.0)
blocks (status_read ∷ b) c h w opn k e = refl
blocks (word_delivered v ∷ b) c h w opn k e = blocks b c h w opn k e
blocks (was_reset ∷ b) c h w opn k e = absurd (true≢false e)

waits : (a b c h : List Mark) (w : ℕ) (owed opn : Bool) → Okay owed opn (a ++ (frame_lost true ∷ (b ++ (word_came w ∷ h)))) →
    has_reset b ≡ false → has_status_read (b ++ c) ≡ true
waits [] b c h w owed opn k e = blocks b c h w true k.1 e
waits (frame_lost r ∷ a) b c h w owed opn k e = waits a b c h w (r || owed) true k.1 e
waits (word_came v ∷ a) b c h w owed opn k e = waits a b c h w owed false k.1 e
waits (status_read ∷ a) b c h w owed opn k e = waits a b c h w false opn k e
waits (word_delivered v ∷ a) b c h w owed opn k e = waits a b c h w owed opn k e
waits (was_reset ∷ a) b c h w owed opn k e = waits a b c h w false false k e

run_on : (a : List Mark) (raises : Bool) → one_run a ≡ true → one_run (a ++ (frame_lost raises ∷ [])) ≡ true
run_on [] raises e = refl
run_on (frame_lost r ∷ a) raises e = run_on a raises e
run_on (word_came w ∷ a) raises e = absurd (false≢true e)
run_on (status_read ∷ a) raises e = run_on a raises e
run_on (word_delivered w ∷ a) raises e = run_on a raises e
run_on (was_reset ∷ a) raises e = absurd (false≢true e)

-- The first loss of the run that a loss after `a` is in: past the beginning of `a`, or in a run that was open there.
record Begun (opn : Bool) (past : List Mark) : Type 0 where
  before : List Mark
  run : List Mark
  raised : past ≡ before ++ (frame_lost true ∷ run)
  first : open_run opn before ≡ false
  one : one_run run ≡ true

-- One mark more in front: `opn` before it, `opn'` after it.
further : (m : Mark) (opn opn' : Bool) (past : List Mark) → ((h : List Mark) → open_run opn (m ∷ h) ≡ open_run opn' h) →
    Begun opn' past → Begun opn (m ∷ past)
further m opn opn' past f b =
    record {
      before = m ∷ b.before;
      run = b.run;
      raised = ap (λ (h : List Mark). m ∷ h) b.raised;
      first = f b.before ∙ b.first;
      one = b.one;
    }

find : {X : Type 0} (a h : List Mark) (raises owed opn : Bool) → Okay owed opn (a ++ (frame_lost raises ∷ h)) →
    (Begun opn (a ++ (frame_lost raises ∷ [])) → X) → (opn ≡ true → one_run a ≡ true → X) → X
find [] h raises owed true k f g = g refl refl
find [] h raises owed false k f g =
    f
    (record {
      before = [];
      run = [];
      raised = ap (λ (r : Bool). frame_lost r ∷ []) (k.0 refl);
      first = refl;
      one = refl;
    })
find (frame_lost r ∷ a) h raises owed true k f g =
    find a h raises (r || owed) true k.1 (λ b. f (further (frame_lost r) true true _ (λ h. refl) b)) g
find (frame_lost r ∷ a) h raises owed false k f g =
    find a h raises (r || owed) true k.1 (λ b. f (further (frame_lost r) false true _ (λ h. refl) b))
    (λ e o.
    f
    (record {
      before = [];
      run = a ++ (frame_lost raises ∷ []);
      raised = ap (λ (q : Bool). frame_lost q ∷ (a ++ (frame_lost raises ∷ []))) (k.0 refl);
      first = refl;
      one = run_on a raises o;
    }))
find (word_came w ∷ a) h raises owed opn k f g =
    find a h raises owed false k.1 (λ b. f (further (word_came w) opn false _ (λ h. refl) b)) (λ e o. absurd (false≢true e))
find (status_read ∷ a) h raises owed opn k f g =
    find a h raises false opn k (λ b. f (further status_read opn opn _ (λ h. refl) b)) g
find (word_delivered w ∷ a) h raises owed opn k f g =
    find a h raises owed opn k (λ b. f (further (word_delivered w) opn opn _ (λ h. refl) b)) g
find (was_reset ∷ a) h raises owed opn k f g =
    find a h raises false false k (λ b. f (further was_reset opn false _ (λ h. refl) b)) (λ e o. absurd (false≢true e))

no_reset : (a b : List Mark) → one_run a ≡ true → has_reset b ≡ false → has_reset (a ++ b) ≡ false
no_reset [] b o e = e
no_reset (frame_lost r ∷ a) b o e = no_reset a b o e
no_reset (word_came w ∷ a) b o e = absurd (false≢true o)
no_reset (status_read ∷ a) b o e = no_reset a b o e
no_reset (word_delivered w ∷ a) b o e = no_reset a b o e
no_reset (was_reset ∷ a) b o e = absurd (false≢true o)

-- Marks that the automaton takes obey the rule.
pub overrun_of : (h : List Mark) → Okay false false h → Overrun h
overrun_of h k a b c d raises w v e nb nc =
    let rest : List Mark = b ++ (word_came w ∷ (c ++ (word_delivered v ∷ d))) in
    let k₁ : Okay false false (a ++ (frame_lost raises ∷ rest)) = subst (Okay false false) e k in
    find a rest raises false false k₁
    (λ g.
    let split : a ++ (frame_lost raises ∷ rest) ≡ g.before ++ (frame_lost true ∷ ((g.run ++ b) ++ (word_came w ∷ (c ++ (word_delivered v ∷ d))))) =
    sym (append_assoc a (frame_lost raises ∷ []) rest)
    ∙ ap (λ (l : List Mark). l ++ rest) g.raised
    ∙ append_assoc g.before (frame_lost true ∷ g.run) rest
    ∙ ap (λ (l : List Mark). g.before ++ (frame_lost true ∷ l)) (sym (append_assoc g.run b (word_came w ∷ (c ++ (word_delivered v ∷ d))))) in
    record {
      before = g.before;
      run = g.run;
      raised = g.raised;
      first = g.first;
      one = g.one;
      looked =
          ap has_status_read (sym (append_assoc g.run b c))
          ∙ waits g.before (g.run ++ b) c (c ++ (word_delivered v ∷ d)) w false false (subst (Okay false false) split k₁)
          (no_reset g.run b g.one nb);
    })
    (λ q o. absurd (false≢true q))
