-- Laws of playing a trace: what is read and written, what stands after a stop, and playing in parts.
use Rattle.std.specs.Prelude.{◌≡◌, Bool, false, cond, not, ◌||◌, ℕ, ◌+◌, ◌-◌, ◌*◌, ◌≤◌, eqb, ltb, length, drop}
use mathlib.Core.List.{List, [], ◌∷◌, ◌++◌, flatten}
use Rattle.qsm.specs.declared.state.Module.{Module}
use Rattle.trace.specs.Trace.{byte_at, answer_length}
use Rattle.trace.specs.Play.{Outcome, stopped, followed, play}

-- What a trace begins with, in the words of refusals 5 and 6. 5: unknown record kind.
abbrev pub unknown : List ℕ → Bool
unknown t =
    not (eqb (byte_at t 0) 1 || eqb (byte_at t 0) 2 || eqb (byte_at t 0) 3 || eqb (byte_at t 0) 4 || eqb (byte_at t 0) 5)

-- The kind byte and the body: 01 reset, 0; 02 hold, 4; 03 read, 3; 04 write, 7; 05 long hold, 6.
abbrev pub record_length : List ℕ → ℕ
record_length t =
    cond (eqb (byte_at t 0) 1) 1
    (cond (eqb (byte_at t 0) 2) 5 (cond (eqb (byte_at t 0) 3) 4 (cond (eqb (byte_at t 0) 4) 8 7)))

-- 6: record cut by the end of the trace.
abbrev pub cut : List ℕ → Bool
cut t = ltb (length t) (record_length t)

-- Each of a list.
abbrev pub Each : {A : Type 0} → (A → Type 0) → List A → Type 0
Each p [] = Unit {0}
Each p (r ∷ rs) = p r × Each p rs

-- Every record that was answered, wherever the trace stopped, is of a known kind and as long as its kind says.
abbrev pub KnownAndWhole : Type 0
KnownAndWhole =
    (m : Module) (t : List ℕ) (room : ℕ) →
    Each (λ r. (unknown r ≡ false) × (length r ≡ record_length r)) (play m t room).records

-- So many bytes are written for each record answered, whatever stopped the trace.
abbrev pub BytesEach : Type 0
BytesEach =
    (m : Module) (t : List ℕ) (room : ℕ) → length (play m t room).answers ≡ answer_length * length (play m t room).records

-- The answers have room.
abbrev pub AnswersFit : Type 0
AnswersFit = (m : Module) (t : List ℕ) (room : ℕ) → length (play m t room).answers ≤ room

-- What of a trace the records answered leave.
abbrev pub unread : Outcome → List ℕ → List ℕ
unread o t = drop (length (flatten o.records)) t

-- The bytes read are those of the records answered, from the start of the trace and with none left out.
abbrev pub RecordsRead : Type 0
RecordsRead =
    (m : Module) (t : List ℕ) (room : ℕ) → flatten (play m t room).records ++ unread (play m t room) t ≡ t

-- A trace that nothing stops is read to its end.
abbrev pub ReadToTheEnd : Type 0
ReadToTheEnd =
    (m : Module) (t : List ℕ) (room : ℕ) → (play m t room).stop ≡ 0 → flatten (play m t room).records ≡ t

-- The same records and answers, with another stop or, with 0, none.
abbrev pub with_stop : ℕ → Outcome → Outcome
with_stop why o = record { state = o.state; records = o.records; answers = o.answers; stop = why }

-- After a stop, earlier answers and their state stand: they are what the records answered give without the rest.
abbrev pub EarlierStand : Type 0
EarlierStand =
    (m : Module) (t : List ℕ) (room : ℕ) → play m (flatten (play m t room).records) room ≡ with_stop 0 (play m t room)

-- A trace that goes on, into any room, is what was played of its beginning, and then what that left with the rest.
abbrev pub Resumes : Type 0
Resumes =
    (m : Module) (t u : List ℕ) (room more : ℕ) →
    play m (t ++ u) (length (play m t room).answers + more) ≡
    followed (play m t room) (play (play m t room).state (unread (play m t room) t ++ u) more)

-- Where t ends at a record's boundary and nothing stops in t, playing t ++ u is playing t, and then u from the module that t
-- left into the room left.
abbrev pub InParts : Type 0
InParts =
    (m : Module) (t u : List ℕ) (room : ℕ) → (play m t room).stop ≡ 0 →
    play m (t ++ u) room ≡
    followed (play m t room) (play (play m t room).state u (room - length (play m t room).answers))

-- A part of a trace, and the room that it is played into.
pub record Buffer : Type 0 where
  pub bytes : List ℕ
  pub room : ℕ

-- What buffers played one after the other give, and what of their bytes they leave.
pub record Streamed : Type 0 where
  pub played : Outcome
  pub rest : List ℕ

-- Buffer after buffer, each behind what the one before it left.
unfoldable pub streamed : Module → List ℕ → List Buffer → Streamed
streamed m left [] = record { played = stopped m 0; rest = left }
streamed m left (b ∷ bs) =
    let o : Outcome = play m (left ++ b.bytes) b.room in
    let s : Streamed = streamed o.state (unread o (left ++ b.bytes)) bs in
    record { played = followed o s.played; rest = s.rest }

abbrev pub bytes_of : List Buffer → List ℕ
bytes_of [] = []
bytes_of (b ∷ bs) = b.bytes ++ bytes_of bs

-- However a trace is cut into buffers, it is played as a whole, and goes on from what they left.
abbrev pub Streams : Type 0
Streams =
    (bs : List Buffer) (m : Module) (left u : List ℕ) (more : ℕ) →
    play m (left ++ (bytes_of bs ++ u)) (length (streamed m left bs).played.answers + more) ≡
    followed (streamed m left bs).played
    (play (streamed m left bs).played.state ((streamed m left bs).rest ++ u) more)
