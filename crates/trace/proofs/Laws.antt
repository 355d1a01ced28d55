-- The laws of specs/Laws, each by induction over the records. Assumes nothing.
use mathlib.Core.Path.{◌≡◌, refl, sym, ap, subst, ◌∙◌}
use mathlib.Core.Bool.{Bool, true, false, cond, not, ◌||◌}
use mathlib.Core.List.{List, [], ◌∷◌, ◌++◌, append_assoc, flatten}
use Prim.Native.Nat.{ℕ, ◌+◌, ◌-◌, ◌*◌, ◌≤◌}
use native.Mathlib.Omega.{arith}
use lib.Dec.{eqb, ltb}
use lib.ListN.{length, take, drop, take-append-drop, length-append, drop_of_length-le}
use lib.Seq.{length-take-le, take-append-le, drop-append-le, drop-drop, take_at, drop_at}
use Rattle.qsm.specs.declared.state.Module.{Module}
use Rattle.qsm.specs.declared.event.Event.{Event}
use Rattle.qsm.specs.model.Event.{step}
use Rattle.trace.specs.Trace.{byte_at, by_kind, answer_length, reader}
use Rattle.trace.specs.Play.{Outcome, answered, followed, play}
use Rattle.trace.specs.declared.Parsed.{Parsed}
use Rattle.trace.specs.declared.Parsed.TheVariants.{Record, Unknown, Cut}
use Rattle.trace.specs.Laws.{unknown, record_length, Each, KnownAndWhole, BytesEach, AnswersFit, unread, RecordsRead, ReadToTheEnd, with_stop, EarlierStand, Resumes, InParts, streamed, bytes_of, Streams}
use Rattle.trace.proofs.Playing.{play_none, one_on, followed_assoc, record_kept, record_alone, kind_told, played}

-- A record that was parsed is not of an unknown kind, and as long as its kind says.
abbrev pub Known : Bool → ℕ → Parsed → Type 0
Known other k (Record e n) = (other ≡ false) × (n ≡ k)
Known other k Unknown = Unit {0}
Known other k Cut = Unit {0}

-- Each kind gives its own length, or too few bytes.
known_if : (few : Bool) (k : ℕ) (e : Event) → Known false k (cond few Cut (Record e k))
known_if true k e = tt
known_if false k e = (refl, refl)

known : (a b c d l few few' few'' few''' : Bool) (e f g h i : Event) →
    Known (not (a || b || c || d || l)) (cond a 1 (cond b 5 (cond c 4 (cond d 8 7))))
    (cond a (Record e 1)
    (cond b (cond few Cut (Record f 5))
    (cond c (cond few' Cut (Record g 4))
    (cond d (cond few'' Cut (Record h 8)) (cond l (cond few''' Cut (Record i 7)) Unknown)))))
known true b c d l w x y z e f g h i = (refl, refl)
known false true c d l w x y z e f g h i = known_if w 5 f
known false false true d l w x y z e f g h i = known_if x 4 g
known false false false true l w x y z e f g h i = known_if y 8 h
known false false false false true w x y z e f g h i = known_if z 7 i
known false false false false false w x y z e f g h i = tt

pub known_by_kind : (t : List ℕ) → Known (unknown t) (record_length t) (by_kind (byte_at t 0) t)
known_by_kind t =
    known (eqb (byte_at t 0) 1) (eqb (byte_at t 0) 2) (eqb (byte_at t 0) 3) (eqb (byte_at t 0) 4) (eqb (byte_at t 0) 5)
    (ltb (length t) 5) (ltb (length t) 4) (ltb (length t) 8) (ltb (length t) 7) _ _ _ _ _

pub known_and_whole : KnownAndWhole
known_and_whole =
    played reader (λ m t room o. Each (λ r. (unknown r ≡ false) × (length r ≡ record_length r)) o.records) (λ m t room why end. tt)
    (λ m t room e n o is pos le fits free h.
    let r = take n t in
    let k = subst (Known (unknown r) (record_length r)) (kind_told r r (record_alone t is)) (known_by_kind r) in
    ((k.0, length-take-le n t le ∙ k.1), h))

pub bytes_each : BytesEach
bytes_each =
    played reader (λ m t room o. length o.answers ≡ answer_length * length o.records) (λ m t room why end. omega arith)
    (λ m t room e n o is pos le fits free h. omega (arith, h))

pub answers_fit : AnswersFit
answers_fit =
    played reader (λ m t room o. length o.answers ≤ room) (λ m t room why end. omega arith)
    (λ m t room e n o is pos le fits free h. omega (arith, h))

-- What one record and what follows it leave is what the latter leaves of the rest.
pub unread_next : (m : Module) (t : List ℕ) (e : Event) (n : ℕ) (o : Outcome) → n ≤ length t → unread (followed (answered (step m e) (take n t)) o) t ≡ unread o (drop n t)
unfolding flatten
unread_next m t e n o le =
    ap (λ (k : ℕ). drop k t) (length-append (take n t) (flatten o.records) ∙ ap (λ (k : ℕ). k + length (flatten o.records)) (length-take-le n t le))
    ∙ sym (drop-drop (length (flatten o.records)) n t)

pub records_read : RecordsRead
unfolding flatten
records_read =
    played reader (λ m t room o. flatten o.records ++ unread o t ≡ t) (λ m t room why end. refl)
    (λ m t room e n o is pos le fits free h.
    append_assoc (take n t) (flatten o.records) _ ∙ ap (λ (l : List ℕ). take n t ++ (flatten o.records ++ l)) (unread_next m t e n o le)
    ∙ ap (λ (l : List ℕ). take n t ++ l) h ∙ take-append-drop n t)

nothing : (t : List ℕ) → length t ≡ 0 → [] ≡ t
nothing [] h = refl
nothing (x ∷ t) h = absurd (omega arith)

pub read_to_the_end : ReadToTheEnd
unfolding flatten
read_to_the_end =
    played reader (λ m t room o. o.stop ≡ 0 → flatten o.records ≡ t) (λ m t room why end z. nothing t (end z))
    (λ m t room e n o is pos le fits free h z. ap (λ (l : List ℕ). take n t ++ l) (h z) ∙ take-append-drop n t)

pub earlier_stand : EarlierStand
unfolding flatten
earlier_stand =
    played reader (λ m t room o. play m (flatten o.records) room ≡ with_stop 0 o) (λ m t room why end. play_none reader m [] room refl)
    (λ m t room e n o is pos le fits free h.
    let r = take n t in
    let rs = flatten o.records in
    one_on reader m (r ++ rs) room e n (record_kept r rs (record_alone t is)) fits free
    ∙ simp (take_at r rs n (length-take-le n t le), drop_at r rs n (length-take-le n t le)) (ap (followed (answered (step m e) r)) h))

pub resumes : Resumes
unfolding flatten
resumes m t u room more =
    played reader
    (λ m t room o. play m (t ++ u) (length o.answers + more) ≡ followed o (play o.state (unread o t ++ u) more))
    (λ m t room why end. let none : 0 + more ≡ more = omega arith in ap (play m (t ++ u)) none)
    (λ m t room e n o is pos le fits free h.
    let a = answered (step m e) (take n t) in
    let left : length (followed a o).answers + more - answer_length ≡ length o.answers + more = omega arith in
    one_on reader m (t ++ u) _ e n (record_kept t u is) (omega arith) free
    ∙ simp (take-append-le n t u le, drop-append-le n t u le, left) (ap (followed a) h)
    ∙ sym (followed_assoc a o (play o.state (unread o (drop n t) ++ u) more))
    ∙ ap (λ (l : List ℕ). followed (followed a o) (play o.state (l ++ u) more)) (sym (unread_next m t e n o le)))
    m t room

pub in_parts : InParts
in_parts m t u room z =
    let o = play m t room in
    let all : unread o t ≡ [] = drop_of_length-le t {i = length (flatten o.records)} (omega (arith, ap length (read_to_the_end m t room z))) in
    ap (play m (t ++ u)) (omega (arith, answers_fit m t room)) ∙ resumes m t u room (room - length o.answers)
    ∙ ap (λ (l : List ℕ). followed o (play o.state (l ++ u) (room - length o.answers))) all

pub streams : Streams
unfolding streamed
streams [] m left u more = let none : 0 + more ≡ more = omega arith in ap (play m (left ++ u)) none
streams (b ∷ bs) m left u more =
    let t = left ++ b.bytes in
    let o = play m t b.room in
    let s = streamed o.state (unread o t) bs in
    let joined : left ++ ((b.bytes ++ bytes_of bs) ++ u) ≡ t ++ (bytes_of bs ++ u) = simp append_assoc in
    let room : length (o.answers ++ s.played.answers) + more ≡ length o.answers + (length s.played.answers + more) =
    omega (arith, length-append o.answers s.played.answers) in
    ap (λ (l : List ℕ). play m l (length (o.answers ++ s.played.answers) + more)) joined
    ∙ ap (play m (t ++ (bytes_of bs ++ u))) room
    ∙ resumes m t (bytes_of bs ++ u) b.room (length s.played.answers + more)
    ∙ ap (followed o) (streams bs o.state (unread o t) u more)
    ∙ sym (followed_assoc o s.played (play s.played.state (s.rest ++ u) more))

-- The bounds that a caller needs of what was read and written.
pub read_within : (m : Module) (t : List ℕ) (room : ℕ) → length (flatten (play m t room).records) ≤ length t
read_within m t room =
    let o = play m t room in
    omega (arith, ap length (records_read m t room), length-append (flatten o.records) (unread o t))

pub written_within : (m : Module) (t : List ℕ) (room : ℕ) → answer_length * length (play m t room).records ≤ room
written_within m t room = omega (arith, bytes_each m t room, answers_fit m t room)
