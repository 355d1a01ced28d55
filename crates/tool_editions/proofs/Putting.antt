-- A record that is put is read back behind the others. Assumes nothing.
use mathlib.Core.Path.{◌≡◌, refl, sym, ap, ◌∙◌}
use mathlib.Core.Bool.{true}
use mathlib.Core.List.{List, [], ◌∷◌, ◌++◌, append_assoc}
use Prim.Native.Nat.{ℕ, ◌+◌, ◌*◌, ◌/◌, ◌%◌, ◌<◌, ◌≤◌}
use native.Mathlib.Omega.{arith}
use lib.ListN.{length, take, drop, length-append, length-drop}
use lib.Seq.{length-take-le, take_at, drop_at, drop-drop}
use borrow.Author.Tests.{le-ltb}
use Rattle.tool_editions.specs.Records.{size_of, bytes_of, parsed}
use Rattle.tool_editions.specs.Rules.{refusal_of}
use Rattle.tool_editions.specs.Contents.{holds, read_all, contents}
use Rattle.tool_editions.specs.Editions.{put}
use Rattle.tool_editions.specs.Laws.{Kept, after, Fits}
use Rattle.tool_editions.specs.declared.records.Record.{Record}
use Rattle.tool_editions.specs.declared.records.Record.TheVariants.{Added, Withdrawn}
use Rattle.std.specs.Prelude.{Ok}
use Rattle.tool_editions.proofs.Ordered.{Reads, none, more, reads_of, read_back, reads_on}
use Rattle.tool_editions.proofs.Calls.{Let}

word_back : (n : ℕ) → n < 65536 → n / 256 % 256 * 256 + n % 256 ≡ n
word_back n h = omega arith

pub bytes_length : (r : Record) → length (bytes_of r) ≡ size_of r
bytes_length (Added e) = refl
bytes_length (Withdrawn n) = refl

pub bytes_parsed : (r : Record) → Fits r → parsed (bytes_of r) ≡ Ok r
unfolding parsed
bytes_parsed (Added e) w =
    rw (word_back e.number w.number, word_back e.sccr0 w.sccr0, word_back e.sccr1 w.sccr1, word_back e.spcr0 w.spcr0, word_back e.spcr1 w.spcr1)
bytes_parsed (Withdrawn n) w = rw (word_back n w)

bytes_end : (r : Record) → drop (size_of r) (bytes_of r) ≡ []
bytes_end (Added e) = refl
bytes_end (Withdrawn n) = refl

one : (rs : List Record) (r : Record) → Fits r → refusal_of rs true r ≡ 0 → Reads rs (bytes_of r) (rs ++ (r ∷ []))
one rs r fits ok = more r (bytes_parsed r fits) ok (none (bytes_end r) refl)

-- A buffer with a record put at a place.
module _ (b : List ℕ) (used : ℕ) (r : Record) (room : used + size_of r ≤ length b) where
  abbrev new : List ℕ
  new = (put b used r).buffer

  front : length (take used b ++ bytes_of r) ≡ used + size_of r
  front = simp (length-append, length-take-le used b (omega arith), bytes_length r)

  grouped : new ≡ (take used b ++ bytes_of r) ++ drop (size_of r) (drop used b)
  grouped = sym (append_assoc (take used b) (bytes_of r) (drop (size_of r) (drop used b)))

  pub put_front : take (used + size_of r) new ≡ take used b ++ bytes_of r
  put_front = ap (take (used + size_of r)) grouped ∙ take_at (take used b ++ bytes_of r) (drop (size_of r) (drop used b)) (used + size_of r) front

  pub put_before : take used new ≡ take used b
  put_before = take_at (take used b) (bytes_of r ++ drop (size_of r) (drop used b)) used (length-take-le used b (omega arith))

  pub put_behind : drop (used + size_of r) new ≡ drop (used + size_of r) b
  put_behind =
      ap (drop (used + size_of r)) grouped ∙ drop_at (take used b ++ bytes_of r) (drop (size_of r) (drop used b)) (used + size_of r) front
      ∙ drop-drop (size_of r) used b

  pub put_length : length new ≡ length b
  put_length = simp (length-append, length-take-le used b (omega arith), bytes_length r, length-drop) (omega arith)

-- What is let stands behind the records that were there.
module _ (k : Kept) (r : Record) (fits : Fits r) (l : Let k r) where
  inside : contents k.buffer k.used ≡ read_all (take k.used k.buffer)
  unfolding contents
  inside = rw (le-ltb (length k.buffer) k.used (omega (arith, l.room)))

  whole : Reads [] (take k.used k.buffer ++ bytes_of r) (l.records ++ (r ∷ []))
  whole = reads_on (bytes_of r) (reads_of (take k.used k.buffer) (sym inside ∙ l.held)) (one l.records r fits l.right)

  put_contents : contents (put k.buffer k.used r).buffer (put k.buffer k.used r).used ≡ holds (l.records ++ (r ∷ []))
  unfolding contents
  put_contents =
      let long = put_length k.buffer k.used r l.room in
      rw (le-ltb (length (put k.buffer k.used r).buffer) (k.used + size_of r) (omega (arith, l.room, long)), put_front k.buffer k.used r l.room)
      (read_back whole (length (take k.used k.buffer ++ bytes_of r)) (omega arith))

  pub after_is : contents (after k r).buffer (after k r).used ≡ holds (l.records ++ (r ∷ []))
  after_is = rw l.is put_contents
