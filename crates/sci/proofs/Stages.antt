-- What reads do about the flags on the way through a frame: no error flag rises, and RDRF of the word before goes through three stages.
-- Assumes nothing.
use Prim.Native.Nat.{ℕ}
use mathlib.Core.Bool.{Bool, true, false, not, ◌&&◌, ◌||◌, false≢true}
use mathlib.Core.List.{List, [], ◌∷◌}
use mathlib.Core.Path.{◌≡◌, refl, sym, ◌∙◌}
use Rattle.steps.specs.Bits.{bit}
use Rattle.sci.specs.model.Flags.{receive_flags}
use Rattle.sci.specs.claims.Members.{member}
use Rattle.sci.specs.model.Status.{mark_seen}
use Rattle.sci.specs.claims.Line.{Op, sample, read, looked, fetched, read_status}
use Rattle.sci.specs.declared.status.Status.{Status}
use Rattle.sci.proofs.Flagged.{is_set, is_marked, set_markSeen, marked_markSeen, set_fallSeen, fallSeen_clear}

-- Neither OR, NF, FE nor PF.
pub record Clean (s : Status) : Type 0 where
  pub pf : is_set 0 s ≡ false
  pub fe : is_set 1 s ≡ false
  pub nf : is_set 2 s ≡ false
  pub or : is_set 3 s ≡ false

pub clean_same : {s s' : Status} → ((k : ℕ) → bit k 32 ≡ false → bit k 16 ≡ false → is_set k s' ≡ is_set k s) → Clean s → Clean s'
clean_same f h =
    record {
      pf = f 0 refl refl ∙ h.pf;
      fe = f 1 refl refl ∙ h.fe;
      nf = f 2 refl refl ∙ h.nf;
      or = f 3 refl refl ∙ h.or;
    }

pub clean_clear : (s r : Status) → ((k : ℕ) → is_set k s ≡ false → is_set k r ≡ false) → Clean s → Clean r
clean_clear s r f h = record { pf = f 0 h.pf; fe = f 1 h.fe; nf = f 2 h.nf; or = f 3 h.or }

-- A clear flag stays clear in a read.
pub read_clear : (k : ℕ) (scsr scdr : Bool) (s : Status) → is_set k s ≡ false → is_set k (read_status scsr scdr s) ≡ false
read_clear k true true s h = fallSeen_clear k (mark_seen s) receive_flags (set_markSeen k s ∙ h)
read_clear k true false s h = set_markSeen k s ∙ h
read_clear k false true s h = fallSeen_clear k s receive_flags h
read_clear k false false s h = h

-- What the reads have done about RDRF: nothing; status read since it rose; then data read.
pub data Stage : Type 0 where
  waiting : Stage
  seen : Stage
  free : Stage

abbrev pub Rdrf : Stage → Status → Type 0
Rdrf waiting s = Unit {0}
Rdrf seen s = is_set 6 s ≡ true → is_marked 6 s ≡ true
Rdrf free s = is_set 6 s ≡ false

-- The stage after a look at status, if a read has one; and after its fetch of data, if it has one.
abbrev looked_at : Stage → Bool → Stage
looked_at waiting true = seen
looked_at waiting false = waiting
looked_at seen scsr = seen
looked_at free scsr = free

abbrev fetched_at : Stage → Bool → Stage
fetched_at waiting scdr = waiting
fetched_at seen true = free
fetched_at seen false = seen
fetched_at free scdr = free

abbrev pub staged : Op → Stage → Stage
staged (sample x) st = st
staged (read scsr scdr) st = fetched_at (looked_at st scsr) scdr

pub rdrf_same : (st : Stage) (s s' : Status) → is_set 6 s' ≡ is_set 6 s → is_marked 6 s' ≡ is_marked 6 s → Rdrf st s → Rdrf st s'
rdrf_same waiting s s' e m h = tt
rdrf_same seen s s' e m h = λ q. m ∙ h (sym e ∙ q)
rdrf_same free s s' e m h = e ∙ h

or_right : (a b : Bool) → b ≡ true → a || b ≡ true
or_right true b e = refl
or_right false b e = e

rdrf_looked : (st : Stage) (scsr : Bool) (s : Status) → Rdrf st s → Rdrf (looked_at st scsr) (looked scsr s)
rdrf_looked waiting true s h = λ q. marked_markSeen 6 s ∙ or_right (is_marked 6 s) (is_set 6 s) (sym (set_markSeen 6 s) ∙ q)
rdrf_looked seen true s h = λ q. marked_markSeen 6 s ∙ or_right (is_marked 6 s) (is_set 6 s) (sym (set_markSeen 6 s) ∙ q)
rdrf_looked free true s h = set_markSeen 6 s ∙ h
rdrf_looked waiting false s h = h
rdrf_looked seen false s h = h
rdrf_looked free false s h = h

falls : (a m : Bool) → (a ≡ true → m ≡ true) → a && not (a && m && true) ≡ false
falls false m h = refl
falls true true h = refl
falls true false h = absurd (false≢true (h refl))

rdrf_fetched : (st : Stage) (scdr : Bool) (s : Status) → Rdrf st s → Rdrf (fetched_at st scdr) (fetched scdr s)
unfolding member
rdrf_fetched waiting scdr s h = tt
rdrf_fetched seen true s h = set_fallSeen 6 s receive_flags ∙ falls (is_set 6 s) (is_marked 6 s) h
rdrf_fetched seen false s h = h
rdrf_fetched free true s h = fallSeen_clear 6 s receive_flags h
rdrf_fetched free false s h = h

pub rdrf_read : (st : Stage) (scsr scdr : Bool) (s : Status) → Rdrf st s →
    Rdrf (staged (read scsr scdr) st) (read_status scsr scdr s)
rdrf_read st scsr scdr s h = rdrf_fetched (looked_at st scsr) scdr (looked scsr s) (rdrf_looked st scsr s h)

unfoldable pub stages : List Op → Stage → Stage
stages [] st = st
stages (o ∷ os) st = stages os (staged o st)
