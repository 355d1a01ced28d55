-- Document 01, requests: level and vector.
use Rattle.std.specs.Prelude.{Bool, cond, true, false, ℕ, ◌+◌, ◌*◌, ◌/◌, ◌%◌, eqb, leb}
use Rattle.qsm.specs.declared.request.Request.{Request}

abbrev pub ILQSPI : ℕ → ℕ
ILQSPI qilr = qilr / 8 % 8

abbrev pub ILSCI : ℕ → ℕ
ILSCI qilr = qilr % 8

-- QIVR with bit 0 one for QSPI, zero for SCI.
abbrev pub vector_of : Bool → ℕ → ℕ
vector_of queue qivr = cond queue (qivr / 2 * 2 + 1) (qivr / 2 * 2)

-- The higher level, QSPI on a tie; level 0 gives vector 0.
abbrev pub winner : ℕ → ℕ → ℕ → Request
winner queue serial qivr =
    cond (leb serial queue)
    (cond (eqb queue 0) (record { level = 0; vector = 0 }) (record { level = queue; vector = vector_of true qivr }))
    (record { level = serial; vector = vector_of false qivr })

-- A half that doesn't ask is at level 0, which never wins.
unfoldable pub request : Bool → Bool → ℕ → ℕ → Request
request queueAsks serial_asks qilr qivr =
    winner (cond queueAsks (ILQSPI qilr) 0) (cond serial_asks (ILSCI qilr) 0) qivr
