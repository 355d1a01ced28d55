-- Demand 1: each of the seven refusals, the tenth (02, L9) and privilege, is given exactly when its condition holds and none earlier in the order
-- does: 1, 2, privilege, 3, 4 for an access; 10 for a hold; 5, 6, 7, 10 for a record. None changes anything. What is given is what the
-- answer shows.
use Rattle.std.specs.Prelude.{◌≡◌, Bool, true, false, cond, not, ◌&&◌, ◌||◌, List, [], ◌∷◌, ◌++◌, ℕ, ◌+◌, ◌-◌, ◌%◌, ◌^◌, ◌≤◌, eqb, ltb, length, take, drop}
use Rattle.qsm.specs.model.Decision.{decide_read, decide_write}
use Rattle.qsm.specs.model.Event.{step}
use Rattle.qsm.specs.declared.state.Module.{Module}
use Rattle.qsm.specs.declared.decision.Decision.{Decision}
use Rattle.qsm.specs.declared.decision.Decision.TheVariants.{Permitted, Blocked, Misshapen, Unmapped, Unmodelled, Guarded}
use Rattle.qsm.specs.declared.event.Access.{Access}
use Rattle.qsm.specs.declared.event.Access.TheVariants.{Read, Write}
use Rattle.qsm.specs.declared.event.Event.TheVariants.{Reset, Hold}
use Rattle.qsm.specs.declared.event.Event.TheVariants as event
use Rattle.qsm.specs.declared.event.Answer.{Answer}
use Rattle.qsm.specs.declared.event.Stepped.{Stepped}
use Rattle.trace.specs.Trace.{byte_at, long_at, answer_bytes}
use Rattle.trace.specs.Play.{Outcome, stop_number, play, Plays}
use Rattle.trace.specs.Laws.{unread, unknown, cut, record_length, RecordsRead, KnownAndWhole, EarlierStand, BytesEach}
use Rattle.trace.specs.declared.Played.{Played}
use Rattle.claims_refusals.specs.Refusals.{misshapen, malformed, unmapped, unprivileged, unmodelled, guarded, past_limit, event_at}

-- An access, and the refusal that its answer shows.
abbrev pub read : Module → Bool → ℕ → ℕ → Stepped
read m supervisor width offset = step m (event.Access (Read supervisor width offset))

abbrev pub write : Module → Bool → ℕ → ℕ → ℕ → Stepped
write m supervisor width offset value = step m (event.Access (Write supervisor width offset value))

abbrev pub hold : Module → ℕ → Bool → ℕ → Stepped
hold m pins rxd n = step m (Hold pins rxd n)

abbrev pub gives : ℕ → Stepped → Bool
gives k s = eqb s.answer.refusal k

-- Nothing is changed, and the answer shows such a refusal, or 0, and value 0.
abbrev pub Leaves : Module → ℕ → Stepped → Type 0
Leaves m refusal s = (s.state ≡ m) × (s.answer.refusal ≡ refusal) × (s.answer.value ≡ 0)

-- Stopped by privilege.
abbrev pub blocked : Decision → Bool
blocked Permitted = false
blocked Blocked = true
blocked Misshapen = false
blocked Unmapped = false
blocked Unmodelled = false
blocked Guarded = false

abbrev pub Refusal1 : Type 0
Refusal1 =
    ((m : Module) (s : Bool) (w o : ℕ) → gives 1 (read m s w o) ≡ misshapen w o)
    × ((m : Module) (s : Bool) (w o v : ℕ) → gives 1 (write m s w o v) ≡ malformed w o v)

abbrev pub Refusal2 : Type 0
Refusal2 =
    ((m : Module) (s : Bool) (w o : ℕ) → gives 2 (read m s w o) ≡ not (misshapen w o) && unmapped w o)
    × ((m : Module) (s : Bool) (w o v : ℕ) →
    gives 2 (write m s w o v) ≡ not (malformed w o v) && unmapped w o)

abbrev pub Privilege : Type 0
Privilege =
    ((m : Module) (s : Bool) (w o : ℕ) →
    blocked (decide_read m s w o) ≡ not (misshapen w o) && not (unmapped w o) && unprivileged m s w o)
    × ((m : Module) (s : Bool) (w o v : ℕ) →
    blocked (decide_write m s w o v) ≡ not (malformed w o v) && not (unmapped w o) && unprivileged m s w o)

-- No read is refused so.
abbrev pub Refusal3 : Type 0
Refusal3 =
    ((m : Module) (s : Bool) (w o : ℕ) → gives 3 (read m s w o) ≡ false)
    × ((m : Module) (s : Bool) (w o v : ℕ) →
    gives 3 (write m s w o v)
    ≡ not (malformed w o v) && not (unmapped w o) && not (unprivileged m s w o) && unmodelled m w o v)

abbrev pub Refusal4 : Type 0
Refusal4 =
    ((m : Module) (s : Bool) (w o : ℕ) → gives 4 (read m s w o) ≡ false)
    × ((m : Module) (s : Bool) (w o v : ℕ) →
    gives 4 (write m s w o v)
    ≡ not (malformed w o v) && not (unmapped w o) && not (unprivileged m s w o) && not (unmodelled m w o v)
    && guarded m w o v)

-- Refused: value 0, module unchanged. Stopped by privilege: the same, with no refusal.
abbrev pub Unchanged : Type 0
Unchanged =
    ((m : Module) (a : Access) → gives 0 (step m (event.Access a)) ≡ false →
    Leaves m (step m (event.Access a)).answer.refusal (step m (event.Access a)))
    × ((m : Module) (s : Bool) (w o : ℕ) → blocked (decide_read m s w o) ≡ true → Leaves m 0 (read m s w o))
    × ((m : Module) (s : Bool) (w o v : ℕ) → blocked (decide_write m s w o v) ≡ true → Leaves m 0 (write m s w o v))

-- A hold that would pass 2^64 - 1 clocks since reset. Nothing changes, the input levels included.
abbrev pub Refusal10 : Type 0
Refusal10 =
    ((m : Module) (pins : ℕ) (rxd : Bool) (n : ℕ) → gives 10 (hold m pins rxd n) ≡ ltb (2 ^ 64 - 1) (m.clock + n))
    × ((m : Module) (pins : ℕ) (rxd : Bool) (n : ℕ) → gives 10 (hold m pins rxd n) ≡ true → Leaves m 10 (hold m pins rxd n))

-- Every event is answered: a reset with no refusal, a hold with none or 10, an access with none or one of 1 to 4; with value 0 unless it
-- is a read.
abbrev pub Answered : Type 0
Answered =
    ((m : Module) → ((step m Reset).answer.refusal ≡ 0) × ((step m Reset).answer.value ≡ 0))
    × ((m : Module) (pins : ℕ) (rxd : Bool) (n : ℕ) →
    (gives 0 (hold m pins rxd n) ≡ not (gives 10 (hold m pins rxd n))) × ((hold m pins rxd n).answer.value ≡ 0))
    × ((m : Module) (a : Access) → (step m (event.Access a)).answer.refusal ≤ 4)
    × ((m : Module) (s : Bool) (w o v : ℕ) → (write m s w o v).answer.value ≡ 0)

-- What stands in a trace's output for an answer: 18 bytes, of which the second is the refusal or 0 and the next four the value.
abbrev pub InBytes : Type 0
InBytes =
    (a : Answer) →
    (length (answer_bytes a) ≡ 18) × (byte_at (answer_bytes a) 0 ≡ 0x11) × (byte_at (answer_bytes a) 1 ≡ a.refusal)
    × (long_at (answer_bytes a) 2 ≡ a.value % 2 ^ 32)

-- Where a trace that was played stands: what is left of it, and of the room.
abbrev pub rest : Module → List ℕ → ℕ → List ℕ
rest m t room = unread (play m t room) t

abbrev pub left : Module → List ℕ → ℕ → ℕ
left m t room = room - length (play m t room).answers

abbrev pub over : List ℕ → Bool
over t = eqb (length t) 0

abbrev pub stops : ℕ → Module → List ℕ → ℕ → Bool
stops k m t room = eqb (play m t room).stop k

abbrev pub Refusal5 : Type 0
Refusal5 =
    (m : Module) (t : List ℕ) (room : ℕ) → stops 5 m t room ≡ not (over (rest m t room)) && unknown (rest m t room)

abbrev pub Refusal6 : Type 0
Refusal6 =
    (m : Module) (t : List ℕ) (room : ℕ) →
    stops 6 m t room ≡ not (over (rest m t room)) && not (unknown (rest m t room)) && cut (rest m t room)

-- Fewer than 18 output bytes left.
abbrev pub Refusal7 : Type 0
Refusal7 =
    (m : Module) (t : List ℕ) (room : ℕ) →
    stops 7 m t room
    ≡ not (over (rest m t room)) && not (unknown (rest m t room)) && not (cut (rest m t room))
    && ltb (left m t room) 18

-- A hold that would pass 2^64 - 1 clocks, of the module that the records before it left.
abbrev pub Refusal10OfRecord : Type 0
Refusal10OfRecord =
    (m : Module) (t : List ℕ) (room : ℕ) →
    stops 10 m t room
    ≡ not (over (rest m t room)) && not (unknown (rest m t room)) && not (cut (rest m t room))
    && not (ltb (left m t room) 18) && past_limit (play m t room).state (rest m t room)

-- A trace stops before what it begins with: it is over; the kind of its first record is unknown; the record is cut; fewer than 18 output
-- bytes are left; it is a hold that would pass 2^64 - 1 clocks.
abbrev pub stops_here : Module → List ℕ → ℕ → Bool
stops_here m t room = over t || unknown t || cut t || ltb room 18 || past_limit m t

-- With the first of 5, 6, 7 and 10 that is met, or 0 at the end.
abbrev pub number : List ℕ → ℕ → ℕ
number t room = cond (over t) 0 (cond (unknown t) 5 (cond (cut t) 6 (cond (ltb room 18) 7 10)))

-- Nothing else stops a trace: where it stands, one of these is met, and it stops with that number.
abbrev pub Ends : Type 0
Ends =
    (m : Module) (t : List ℕ) (room : ℕ) →
    (stops_here (play m t room).state (rest m t room) (left m t room) ≡ true)
    × ((play m t room).stop ≡ number (rest m t room) (left m t room))

-- Stopped before the first record: the module as it is, and nothing answered.
abbrev pub stopped_with : ℕ → Module → Outcome
stopped_with k m = record { state = m; records = []; answers = []; stop = k }

-- The first record answered, with its event's answer; and the rest played on the module that the event leaves, into the room left.
abbrev pub answered_first : Module → List ℕ → ℕ → Outcome
answered_first m t room =
    let s : Stepped = step m (event_at t) in
    let o : Outcome = play s.state (drop (record_length t) t) (room - 18) in
    record {
      state = o.state;
      records = take (record_length t) t ∷ o.records;
      answers = answer_bytes s.answer ++ o.answers;
      stop = o.stop;
    }

-- And none of these is passed over: a record is answered exactly if none is met at it, on the module that the records before it left and
-- with the room that their answers left. This one equation settles every trace.
abbrev pub RecordByRecord : Type 0
RecordByRecord =
    (m : Module) (t : List ℕ) (room : ℕ) →
    play m t room ≡ cond (stops_here m t room) (stopped_with (number t room) m) (answered_first m t room)

-- What is answered, and what is left of a lent output: the answers given before the stop stand in it, and every byte past them is as it was. A
-- trace that stops before its first record leaves the module and every byte.
pub record Written (m : Module) (t lent : List ℕ) (r : Played) (output : List ℕ) : Type 0 where
  pub state : r.state ≡ (play m t (length lent)).state
  pub stop : stop_number r.stop ≡ (play m t (length lent)).stop
  pub bytes : r.written ≡ length (play m t (length lent)).answers
  pub stands : output ≡ (play m t (length lent)).answers ++ drop r.written lent
  pub nothing : stops_here m t (length lent) ≡ true → (r.state ≡ m) × (r.written ≡ 0) × (output ≡ lent)

-- The contract of `play` says it, so that a refusal that stops a trace writes nothing.
abbrev pub Output : Type 0
Output =
    (m : Module) (t lent : List ℕ) (r : Played) (output : List ℕ) →
    Plays (play m t (length lent)) lent r output → Written m t lent r output

-- The laws of a trace say the rest: what was answered is the trace's beginning, and each record of it is of a known kind and whole, so that
-- 5 and 6 are given at the first that isn't; after 5 to 7 and 10 the module is as after the records answered, and their answers stand.
pub record Demand1 : Type 0 where
  pub refusal1 : Refusal1
  pub refusal2 : Refusal2
  pub privilege : Privilege
  pub refusal3 : Refusal3
  pub refusal4 : Refusal4
  pub unchanged : Unchanged
  pub refusal10 : Refusal10
  pub answered : Answered
  pub in_bytes : InBytes
  pub refusal5 : Refusal5
  pub refusal6 : Refusal6
  pub refusal7 : Refusal7
  pub refusal10_of_record : Refusal10OfRecord
  pub ends : Ends
  pub record_by_record : RecordByRecord
  pub output : Output
  pub records_read : RecordsRead
  pub known_and_whole : KnownAndWhole
  pub earlier_stand : EarlierStand
  pub bytes_each : BytesEach
