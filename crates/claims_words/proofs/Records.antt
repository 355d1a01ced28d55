-- The words of events and of a trace's records: one at a time, and buffer by buffer. Assumes nothing.
use mathlib.Core.Path.{◌≡◌, refl, ap, sym, ◌∙◌}
use mathlib.Core.List.{List, [], ◌∷◌, ◌++◌, append-nil, append_assoc}
use Prim.Native.Nat.{ℕ, ◌<◌}
use native.Mathlib.Omega.{arith}
use lib.ListN.{length}
use Rattle.qsm.specs.model.Event.{step}
use Rattle.qsm.specs.declared.state.Module.{Module}
use Rattle.qsm.specs.declared.event.Event.{Event}
use Rattle.trace.specs.Trace.{parsed}
use Rattle.trace.specs.Play.{Outcome, play}
use Rattle.trace.specs.Laws.{unread, Streamed, streamed}
use Rattle.trace.specs.Records.{event_of, events, leaves}
use Rattle.trace.specs.declared.Parsed.{Parsed}
use Rattle.trace.specs.declared.Parsed.TheVariants.{Record, Unknown, Cut}
use Rattle.trace.proofs.Laws.{written_within}
use Rattle.trace.proofs.Records.{state_left, events_append}
use Rattle.reception.specs.Arrival.{arrival, figure_of, figures}
use Rattle.claims_histories.proofs.Lifted.{stepped}
use Rattle.claims_words.specs.Words.{Word, event_words, words, figures_of}
use Rattle.claims_words.specs.Told.{told}
use Rattle.claims_words.specs.Claims.{FiguresTold, RecordTold, told_by, AllTold}
use Rattle.claims_words.proofs.Events.{event_told, figure_told, still}

step_told_holds : (e : Event) (m : Module) → event_words e m ≡ told m (step m e).state
step_told_holds e m = event_told e m ∙ ap (told m) (stepped m e)

figures_append : (vs ws : List Word) → figures_of (vs ++ ws) ≡ figures_of vs ++ figures_of ws
figures_append [] ws = refl
figures_append (v ∷ vs) ws = ap (λ (fs : List ℕ). v.figure ∷ fs) (figures_append vs ws)

-- One event after the other.
pub figures_told : FiguresTold
unfolding figures words
figures_told [] m = refl
figures_told (e ∷ es) m =
    let left : Module = (step m e).state in
    ap (λ (fs : List ℕ). figure_of (arrival m left) ++ fs) (figures_told es left)
    ∙ ap (λ (fs : List ℕ). fs ++ figures_of (words es left)) (sym (ap figures_of (step_told_holds e m) ∙ figure_told m left))
    ∙ sym (figures_append (event_words e m) (words es left))

-- One record at most.
one_told : (rs : List (List ℕ)) (m : Module) → length rs < 2 → words (events rs) m ≡ told m (leaves (events rs) m)
unfolding words leaves events
one_told [] m h = still m
one_told (r ∷ []) m h = go (parsed r)
  where
    go : (p : Parsed) → words (event_of p ++ []) m ≡ told m (leaves (event_of p ++ []) m)
    go (Record e n) = append-nil (event_words e m) ∙ step_told_holds e m
    go Unknown = still m
    go Cut = still m
one_told (r ∷ (s ∷ rs)) m h = absurd (omega arith)

pub by_record : RecordTold
by_record m t room h =
    let few : length (play m t room).records < 2 = omega (arith, written_within m t room) in
    one_told (play m t room).records m few ∙ ap (told m) (sym (state_left m t room))

words_append : (es fs : List Event) (m : Module) → words (es ++ fs) m ≡ words es m ++ words fs (leaves es m)
unfolding words leaves
words_append [] fs m = refl
words_append (e ∷ es) fs m =
    ap (λ (ws : List Word). event_words e m ++ ws) (words_append es fs (step m e).state)
    ∙ sym (append_assoc (event_words e m) (words es (step m e).state) _)

pub all_told : AllTold
unfolding told_by streamed words events
all_told m left [] h = refl
all_told m left (b ∷ bs) h =
    let t : List ℕ = left ++ b.bytes in
    let o : Outcome = play m t b.room in
    let s : Streamed = streamed o.state (unread o t) bs in
    let rest : List Event = events s.played.records in
    ap (λ (ws : List Word). told m o.state ++ ws) (all_told o.state (unread o t) bs h.1)
    ∙ ap (λ (ws : List Word). ws ++ words rest o.state) (sym (by_record m t b.room h.0))
    ∙ ap (λ (n : Module). words (events o.records) m ++ words rest n) (state_left m t b.room)
    ∙ sym (words_append (events o.records) rest m)
    ∙ ap (λ (es : List Event). words es m) (sym (events_append o.records s.played.records))
