-- Calls on a trace that comes in pieces are calls on the whole. Assumes nothing.
use mathlib.Core.Path.{◌≡◌, refl, sym, ap, subst, ◌∙◌}
use mathlib.Core.Bool.{Bool, true, false, cond}
use mathlib.Core.List.{List, [], ◌∷◌, ◌++◌, append_assoc, append-nil, flatten}
use Prim.Native.Nat.{ℕ, zero, suc, ◌+◌, ◌^◌, ◌<◌, ◌≤◌}
use native.Mathlib.Omega.{arith}
use lib.ListN.{length, take, drop, take-append-drop, length-append}
use lib.Seq.{length-take-le, get_or-append-add}
use Rattle.tool_lines.specs.Call.{turned, moved_to, nothing, go_for, go_on, turn, handed_in, Calls}
use Rattle.tool_lines.specs.Laws.{Bytes}
use Rattle.tool_lines.specs.Pieces.{wants, waiting, rebased, Stand, Told, next_piece, call_on, ahead, piece_calls, calls, InPieces, Cuts}
use Rattle.tool_lines.specs.declared.line.Line.{Line}
use Rattle.tool_lines.specs.declared.stop.Stop.{Stop}
use Rattle.tool_lines.specs.declared.line.Outcome.{Outcome}
use Rattle.tool_lines.specs.declared.line.Outcome.TheVariants.{Nothing, Handed, Dropped, Stopped, Ended, Refused}
use Rattle.tool_lines.specs.declared.Lines.{Lines}
use Rattle.tool_lines.specs.declared.Turned.{Turned}
use Rattle.tool_lines.proofs.Whole.{call_means}
use Rattle.tool_lines.proofs.Shifting.{moved, call_ahead}
use Rattle.tool_lines.proofs.Extending.{Goes, call_extends}

-- ---- parts of bytes are bytes

bytes_front : (t u : List ℕ) → Bytes (t ++ u) → Bytes t
bytes_front [] u h i = omega arith
bytes_front (x ∷ t) u h zero = h zero
bytes_front (x ∷ t) u h (suc i) = bytes_front t u (λ j. h (suc j)) i

bytes_behind : (c t : List ℕ) → Bytes (c ++ t) → Bytes t
bytes_behind c t h i = subst (λ (b : ℕ). b < 256) (get_or-append-add c t i 0) (h (length c + i))

-- ---- one call

-- What a call by pieces tells is what one tells of the whole, of which it leaves the rest.
record Meets (period : ℕ) (all : List ℕ) (s : Lines) (x : Told) : Type 0 where
  call : go_on period all s ≡ turned (ahead x.stand.before x.stand.state) x.outcome
  first : List ℕ
  long : length first ≡ x.stand.before
  rest : all ≡ first ++ (x.stand.bytes ++ flatten x.stand.coming)
  within : x.stand.state.at ≤ length x.stand.bytes
  few : x.stand.state.left < 2 ^ 32

cut_at : (c t p rest : List ℕ) (a : ℕ) → (c ++ take a t) ++ ((drop a t ++ p) ++ rest) ≡ c ++ (t ++ (p ++ rest))
cut_at c t p rest a =
    append_assoc c (take a t) ((drop a t ++ p) ++ rest)
    ∙ ap (λ (l : List ℕ). c ++ l)
    (ap (λ (l : List ℕ). take a t ++ l) (append_assoc (drop a t) p rest) ∙ sym (append_assoc (take a t) (drop a t) (p ++ rest))
    ∙ ap (λ (l : List ℕ). l ++ (p ++ rest)) (take-append-drop a t))

module _ (period : ℕ) (pos : 0 < period) where
  abbrev On : List (List ℕ) → Type 0
  On ps =
      (before : ℕ) (t : List ℕ) (s : Lines) (c : List ℕ) → length c ≡ before → Bytes (c ++ (t ++ flatten ps)) → s.left < 2 ^ 32 → s.at ≤ length t →
      Meets period (c ++ (t ++ flatten ps)) (ahead before s) (call_on ps period before t s)

  module _ (p : List ℕ) (ps : List (List ℕ)) (on : On ps) (before : ℕ) (t : List ℕ) (s : Lines) (c : List ℕ) (is : length c ≡ before)
      (bytes : Bytes (c ++ (t ++ (p ++ flatten ps)))) (few : s.left < 2 ^ 32) (h : s.at ≤ length t) where
    abbrev more : List ℕ
    more = p ++ flatten ps

    abbrev all : List ℕ
    all = c ++ (t ++ more)

    abbrev r : Turned
    r = go_on period t s

    behind : Bytes (t ++ more)
    behind = bytes_behind c (t ++ more) bytes

    goes : Goes period t more pos (bytes_front t more behind) behind s r
    goes = call_extends period t more pos (bytes_front t more behind) behind s few h

    tells : nothing r.outcome ≡ false
    tells = (call_means period t pos (bytes_front t more behind) s few).tells

    -- It goes on with the next piece.
    onward : wants r.outcome ≡ true →
        Meets period all (ahead before s) (call_on ps period (before + r.state.at) (drop r.state.at t ++ p) (rebased r.state))
    onward wanted =
        let a : ℕ = r.state.at in
        let whole = cut_at c t p (flatten ps) a in
        let long : length (c ++ take a t) ≡ before + a = omega (arith, length-append c (take a t), length-take-le a t goes.within, is) in
        let m = on (before + a) (drop a t ++ p) (rebased r.state) (c ++ take a t) long (subst Bytes (sym whole) bytes) goes.few (omega arith) in
        let same : before + a ≡ before + a + 0 = omega arith in
        record {
          call =
              call_ahead period before c (t ++ more) is s ∙ ap (moved before) (goes.more wanted) ∙ sym (call_ahead period before c (t ++ more) is r.state)
              ∙ ap (λ (k : ℕ). go_on period all (moved_to r.state k)) same
              ∙ ap (λ (l : List ℕ). go_on period l (moved_to r.state (before + a + 0))) (sym whole) ∙ m.call;
          first = m.first;
          long = m.long;
          rest = sym whole ∙ m.rest;
          within = m.within;
          few = m.few;
        }

    by : (wanted : Bool) → wants r.outcome ≡ wanted →
        Meets period all (ahead before s) (next_piece (call_on ps period) p ps before t (turned r.state (cond wanted Nothing r.outcome)))
    unfolding flatten
    by true wanted = onward wanted
    by false wanted =
        rw tells
        (record {
          call = call_ahead period before c (t ++ more) is s ∙ ap (moved before) (goes.same wanted);
          first = c;
          long = is;
          rest = refl;
          within = goes.within;
          few = goes.few;
        })

  meets : (ps : List (List ℕ)) → On ps
  unfolding call_on flatten
  meets [] before t s c is bytes few h =
      let behind = bytes_behind c (t ++ []) bytes in
      let goes = call_extends period t [] pos (bytes_front t [] behind) behind s few h in
      record {
        call = ap (λ (l : List ℕ). go_on period (c ++ l) (ahead before s)) (append-nil t) ∙ call_ahead period before c t is s;
        first = c;
        long = is;
        rest = refl;
        within = goes.within;
        few = goes.few;
      }
  meets (p ∷ ps) before t s c is bytes few h =
      by p ps (meets ps) before t s c is bytes few h (wants (go_on period t s).outcome) refl

  -- ---- calls over and over

  over : (k : ℕ) (w : Stand) (all c : List ℕ) → all ≡ c ++ (w.bytes ++ flatten w.coming) → length c ≡ w.before → Bytes all → w.state.left < 2 ^ 32 →
      w.state.at ≤ length w.bytes → piece_calls k period w ≡ calls k period all (ahead w.before w.state)
  unfolding piece_calls calls
  over zero w all c is long bytes few h = refl
  over (suc k) w all c is long bytes few h =
      let x : Told = call_on w.coming period w.before w.bytes w.state in
      let m =
      subst (λ (l : List ℕ). Meets period l (ahead w.before w.state) x) (sym is)
      (meets w.coming w.before w.bytes w.state c long (subst Bytes is bytes) few h) in
      ap (λ (l : List Turned). turned (ahead x.stand.before x.stand.state) x.outcome ∷ l)
      (over k x.stand all m.first m.rest m.long bytes m.few m.within)
      ∙ ap (λ (r : Turned). r ∷ calls k period all r.state) (sym m.call)

pub in_pieces : InPieces
in_pieces ps period s k pos bytes few at =
    let same : 0 + s.at ≡ s.at = omega arith in
    over period pos k (record { state = s; before = 0; bytes = []; coming = ps }) (flatten ps) [] refl refl bytes few (omega (arith, at))
    ∙ ap (λ (a : ℕ). calls k period (flatten ps) (moved_to s a)) same

pub cuts : Cuts
unfolding go_on go_for turn
cuts = record { waits = refl; stops = refl }

-- ---- the lent buffer

buffer_stop : (l : Line) (lent : List ℕ) (why : Stop) (b : Bool) → handed_in l (cond b Nothing (Stopped why)) lent ≡ lent
buffer_stop l lent why true = refl
buffer_stop l lent why false = refl

buffer_kept : (l : Line) (lent : List ℕ) (o : Outcome) → handed_in l (cond (wants o) Nothing o) lent ≡ handed_in l o lent
buffer_kept l lent Nothing = refl
buffer_kept l lent (Handed number n) = refl
buffer_kept l lent (Dropped number cause) = refl
buffer_kept l lent (Stopped why) = buffer_stop l lent why (wants (Stopped why))
buffer_kept l lent Ended = refl
buffer_kept l lent (Refused why) = refl

pub waited : (last : Bool) (o r q : Turned) (lent left : List ℕ) → Calls o lent r left → q ≡ waiting last r → Calls (waiting last o) lent q left
waited true o r q lent left h is = record { answer = is ∙ h.answer; buffer = h.buffer }
waited false o r q lent left h is =
    record { answer = is ∙ ap (waiting false) h.answer; buffer = h.buffer ∙ sym (buffer_kept o.state.line lent o.outcome) }
