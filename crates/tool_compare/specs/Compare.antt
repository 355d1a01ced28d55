-- Document 02, L2 and L9: two logs of answers, compared. The answers' fields are a parameter, which the logs' kind gives.
use Rattle.std.specs.Prelude.{◌≡◌, Bool, false, cond, not, ◌||◌, List, [], ◌∷◌, ◌++◌, ℕ, zero, suc, ◌+◌, ◌*◌, ◌/◌, ◌%◌, min, eqb, ltb, length, take, drop}
use Rattle.answers.specs.Answer.{fields_of, stride}
use Rattle.tool_compare.specs.Answer.{same, sum_of}
use Rattle.tool_compare.specs.Kind.{kind_of, mixed}
use Rattle.tool_compare.specs.declared.Compared.{Compared}

-- Answer number k of a log, answers being so many bytes long.
abbrev pub answer : ℕ → List ℕ → ℕ → List ℕ
answer bytes log k = take bytes (drop (k * bytes) log)

-- The numbers of the answers that differ among the first n, in order.
unfoldable pub differing : ℕ → List ℕ → List ℕ → ℕ → List ℕ
differing bytes a b zero = []
differing bytes a b (suc n) =
    differing bytes a b n ++ cond (same (answer bytes a n) (answer bytes b n)) [] (n ∷ [])

-- Two numbers each: the answer's, then the sum for its differing fields.
abbrev pub listed : List ℕ → List ℕ → List ℕ → List ℕ → List ℕ
listed fs a b [] = []
listed fs a b (k ∷ ks) = k ∷ sum_of fs (answer (stride fs) a k) (answer (stride fs) b k) ∷ listed fs a b ks

-- What a comparison leaves of the lent list, how many answers differ, its refusal or 0, and the stretch handed back: of the second log
-- or of the first, where it starts, and its bytes.
pub record Outcome : Type 0 where
  pub list : List ℕ
  pub count : ℕ
  pub refusal : ℕ
  pub second : Bool
  pub start : ℕ
  pub surplus : List ℕ

-- The end of the shorter log.
abbrev pub common_end : List ℕ → List ℕ → ℕ
common_end a b = min (length a) (length b)

-- A refusal: count 0, an empty stretch of the first log, the list as it was.
abbrev pub refused : List ℕ → List ℕ → List ℕ → ℕ → Outcome
refused a b lent why =
    record { list = lent; count = 0; refusal = why; second = false; start = common_end a b; surplus = [] }

-- The answers that both have.
abbrev pub common : ℕ → List ℕ → List ℕ → ℕ
common bytes a b = min (length a / bytes) (length b / bytes)

-- The longer log past the common end; nothing of the first where they are equally long.
abbrev pub surplus_of : List ℕ → List ℕ → List ℕ
surplus_of a b = cond (ltb (length a) (length b)) (drop (length a) b) (drop (length b) a)

-- The answers ks reported: the list past them is as it was.
abbrev pub reported : List ℕ → List ℕ → List ℕ → List ℕ → List ℕ → Outcome
reported fs a b lent ks =
    record {
      list = listed fs a b ks ++ drop (2 * length ks) lent;
      count = length ks;
      refusal = 0;
      second = ltb (length a) (length b);
      start = common_end a b;
      surplus = surplus_of a b;
    }

-- A length that is no multiple of an answer's.
abbrev pub cut : ℕ → List ℕ → Bool
cut bytes log = not (eqb (length log % bytes) 0)

-- 7 exactly if the list is too short.
abbrev pub fitted : List ℕ → List ℕ → List ℕ → List ℕ → List ℕ → Outcome
fitted fs a b lent ks = cond (ltb (length lent) (2 * length ks)) (refused a b lent 7) (reported fs a b lent ks)

-- 6 before 7.
unfoldable pub compared : List ℕ → List ℕ → List ℕ → List ℕ → Outcome
compared fs a b lent =
    cond (cut (stride fs) a || cut (stride fs) b) (refused a b lent 6)
    (fitted fs a b lent (differing (stride fs) a b (common (stride fs) a b)))

-- 5 before 6: logs whose answers are to be of a kind.
unfoldable pub compared_as : ℕ → List ℕ → List ℕ → List ℕ → Outcome
compared_as kind a b lent =
    cond (mixed kind a || mixed kind b) (refused a b lent 5) (compared (fields_of kind) a b lent)

-- The kind is the logs' own.
abbrev pub compared_logs : List ℕ → List ℕ → List ℕ → Outcome
compared_logs a b lent = compared_as (kind_of a b) a b lent

-- Where the stretch stands, of logs that stand at p and q.
abbrev pub placed : ℕ × ℕ → ℕ × ℕ → Outcome → ℕ × ℕ
placed p q o = cond o.second (q.0, o.start + q.1) (p.0, o.start + p.1)

-- A comparison: the list left, the count, the refusal, and the part handed back, its bytes and its place.
pub record Reports (o : Outcome) (p q : ℕ × ℕ) (list : List ℕ) (count refusal : ℕ) (part : List ℕ) (place : ℕ × ℕ) : Type 0 where
  pub list_is : list ≡ o.list
  pub count_is : count ≡ o.count
  pub refusal_is : refusal ≡ o.refusal
  pub part_is : part ≡ o.surplus
  pub place_is : place ≡ placed p q o

-- The same with the stretch in numbers.
abbrev pub in_numbers : Outcome → Compared
in_numbers o =
    record {
      count = o.count;
      refusal = o.refusal;
      second = o.second;
      start = o.start;
      length = length o.surplus;
    }
