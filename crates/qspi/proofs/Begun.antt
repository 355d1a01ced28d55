-- Clock 1 takes the entry up first and is then played like any other clock of it. Assumes nothing.
use mathlib.Core.Path.{◌≡◌, refl}
use mathlib.Core.Bool.{Bool, true, false, cond, not, ◌&&◌}
use Rattle.qspi.specs.model.Queue.{play_clock, delay_clock, start_clock, clock_at, ready, begun}
use Rattle.qspi.specs.declared.Qspi.{Qspi}

abbrev starts : Qspi → Bool
starts q = (not q.entry.playing && not q.entry.delaying) && ready q

abbrev begun_if : Qspi → Qspi
begun_if q = cond (starts q) (begun q) q

begun_cases : (p d r miso : Bool) (q : Qspi) → q.entry.playing ≡ p → q.entry.delaying ≡ d → ready q ≡ r →
    cond (begun_if q).entry.playing (play_clock miso (begun_if q)) (cond (begun_if q).entry.delaying (delay_clock (begun_if q)) (begun_if q))
    ≡ clock_at q.entry.playing q.entry.delaying miso q
unfolding start_clock
begun_cases true d r miso q playing _ _ =
    let no : starts q ≡ false = rw playing in
    rw (no, playing)
begun_cases false true r miso q playing delaying _ =
    let no : starts q ≡ false = rw (playing, delaying) in
    rw (no, playing, delaying)
begun_cases false false true miso q playing delaying goes =
    let yes : starts q ≡ true = rw (playing, delaying, goes) in
    rw (yes, playing, delaying, goes)
begun_cases false false false miso q playing delaying waits =
    let no : starts q ≡ false = rw (playing, delaying, waits) in
    rw (no, playing, delaying, waits)

pub begun_first : (miso : Bool) (q : Qspi) →
    cond (begun_if q).entry.playing (play_clock miso (begun_if q)) (cond (begun_if q).entry.delaying (delay_clock (begun_if q)) (begun_if q))
    ≡ clock_at q.entry.playing q.entry.delaying miso q
begun_first miso q = begun_cases _ _ _ miso q refl refl refl
