-- Two states of the queue compared part by part, each part beside all that follow it, as a derived `==` asks them. Assumes nothing.
use mathlib.Core.Path.{◌≡◌, refl, ap}
use mathlib.Core.Bool.{Bool, ◌&&◌, beq}
use mathlib.Core.List.{List}
use Prim.Native.Nat.{ℕ}
use lib.Dec.{eqb}
use lib.Pointwise.{pointwise}
use Rattle.std.specs.Bool.{Decides}
use Rattle.std.specs.Cmp.{booleans_Decides as bit, unsigned_Decides as number}
use Rattle.std.proofs.lemmas.Bool.Decides.{Decides-and, Decides-like}
use Rattle.std.proofs.lemmas.Slice.Eq.{slice_eq-Decides}
use Rattle.qspi.specs.declared.Qspi.{Qspi}
use Rattle.qspi.specs.declared.entry.Entry.{Entry}
use Rattle.qspi.specs.declared.queue.Next.{Next}
use Rattle.qspi.specs.declared.ram.Ram.{Ram}
use Rattle.qspi.specs.declared.registers.Registers.{Registers}
use Rattle.qspi.specs.declared.spsr.Flags.{Flags}
use Rattle.qspi.specs.declared.spsr.Spsr.{Spsr}

both : {P Q : Type 0} {s t : Bool} → Decides s P → Decides t Q → Decides (s && t) (P × Q)
both {s = s} {t = t} d k = Decides-and s t d k

numbers : (xs ys : List ℕ) → Decides (pointwise eqb xs ys) (xs ≡ ys)
numbers xs ys = slice_eq-Decides number xs ys (pointwise eqb xs ys) refl

pub registers_decided : (x y : Registers) →
    Decides (eqb x.spcr3 y.spcr3 && (eqb x.spcr0 y.spcr0 && (eqb x.spcr1 y.spcr1 && eqb x.spcr2 y.spcr2))) (x ≡ y)
registers_decided x y =
    Decides-like _ (λ h. λ i. record { spcr3 = h.0 i; spcr0 = h.1.0 i; spcr1 = h.1.1.0 i; spcr2 = h.1.1.1 i })
    (λ e. (ap (λ s. s.spcr3) e, (ap (λ s. s.spcr0) e, (ap (λ s. s.spcr1) e, ap (λ s. s.spcr2) e))))
    (both (number x.spcr3 y.spcr3) (both (number x.spcr0 y.spcr0) (both (number x.spcr1 y.spcr1) (number x.spcr2 y.spcr2))))

pub flags_decided : (x y : Flags) → Decides (beq x.spif y.spif && (beq x.modf y.modf && beq x.halta y.halta)) (x ≡ y)
flags_decided x y =
    Decides-like _ (λ h. λ i. record { spif = h.0 i; modf = h.1.0 i; halta = h.1.1 i })
    (λ e. (ap (λ s. s.spif) e, (ap (λ s. s.modf) e, ap (λ s. s.halta) e)))
    (both (bit x.spif y.spif) (both (bit x.modf y.modf) (bit x.halta y.halta)))

pub spsr_decided : (x y : Spsr) {a b : Bool} → Decides a (x.flags ≡ y.flags) → Decides b (x.seen ≡ y.seen) →
    Decides (a && (b && eqb x.cptqp y.cptqp)) (x ≡ y)
spsr_decided x y a b =
    Decides-like _ (λ h. λ i. record { flags = h.0 i; seen = h.1.0 i; cptqp = h.1.1 i })
    (λ e. (ap (λ s. s.flags) e, (ap (λ s. s.seen) e, ap (λ s. s.cptqp) e)))
    (both a (both b (number x.cptqp y.cptqp)))

pub ram_decided : (x y : Ram) →
    Decides (pointwise eqb x.receive y.receive && (pointwise eqb x.transmit y.transmit && pointwise eqb x.commands y.commands)) (x ≡ y)
ram_decided x y =
    Decides-like _ (λ h. λ i. record { receive = h.0 i; transmit = h.1.0 i; commands = h.1.1 i })
    (λ e. (ap (λ s. s.receive) e, (ap (λ s. s.transmit) e, ap (λ s. s.commands) e)))
    (both (numbers x.receive y.receive) (both (numbers x.transmit y.transmit) (numbers x.commands y.commands)))

pub next_decided : (x y : Next) → Decides (eqb x.working y.working && (eqb x.pointer y.pointer && beq x.pending y.pending)) (x ≡ y)
next_decided x y =
    Decides-like _ (λ h. λ i. record { working = h.0 i; pointer = h.1.0 i; pending = h.1.1 i })
    (λ e. (ap (λ s. s.working) e, (ap (λ s. s.pointer) e, ap (λ s. s.pending) e)))
    (both (number x.working y.working) (both (number x.pointer y.pointer) (bit x.pending y.pending)))

pub entry_decided : (x y : Entry) →
    Decides
    (eqb x.word y.word && (eqb x.command y.command && (beq x.playing y.playing && (beq x.delaying y.delaying
    && (beq x.halted y.halted && (eqb x.left y.left && (eqb x.edges y.edges && (beq x.mosi y.mosi
    && (eqb x.collected y.collected && beq x.selecting y.selecting))))))))) (x ≡ y)
entry_decided x y =
    Decides-like _
    (λ h. λ i. record {
      word = h.0 i;
      command = h.1.0 i;
      playing = h.1.1.0 i;
      delaying = h.1.1.1.0 i;
      halted = h.1.1.1.1.0 i;
      left = h.1.1.1.1.1.0 i;
      edges = h.1.1.1.1.1.1.0 i;
      mosi = h.1.1.1.1.1.1.1.0 i;
      collected = h.1.1.1.1.1.1.1.1.0 i;
      selecting = h.1.1.1.1.1.1.1.1.1 i;
    })
    (λ e. (
      ap (λ s. s.word) e,
      (
        ap (λ s. s.command) e,
        (
          ap (λ s. s.playing) e,
          (
            ap (λ s. s.delaying) e,
            (
              ap (λ s. s.halted) e,
              (
                ap (λ s. s.left) e,
                (
                  ap (λ s. s.edges) e,
                  (
                    ap (λ s. s.mosi) e,
                    (ap (λ s. s.collected) e, ap (λ s. s.selecting) e),
                  ),
                ),
              ),
            ),
          ),
        ),
      ),
    ))
    (both (number x.word y.word) (both (number x.command y.command) (both (bit x.playing y.playing)
    (both (bit x.delaying y.delaying) (both (bit x.halted y.halted) (both (number x.left y.left)
    (both (number x.edges y.edges) (both (bit x.mosi y.mosi)
    (both (number x.collected y.collected) (bit x.selecting y.selecting))))))))))

pub queue_decided : (x y : Qspi) {a b c d f : Bool} → Decides a (x.registers ≡ y.registers) → Decides b (x.spsr ≡ y.spsr) →
    Decides c (x.ram ≡ y.ram) → Decides d (x.next ≡ y.next) → Decides f (x.entry ≡ y.entry) →
    Decides (a && (b && (c && (d && f)))) (x ≡ y)
queue_decided x y a b c d f =
    Decides-like _
    (λ h. λ i. record { registers = h.0 i; spsr = h.1.0 i; ram = h.1.1.0 i; next = h.1.1.1.0 i; entry = h.1.1.1.1 i })
    (λ e. (ap (λ s. s.registers) e, (ap (λ s. s.spsr) e, (ap (λ s. s.ram) e, (ap (λ s. s.next) e, ap (λ s. s.entry) e)))))
    (both a (both b (both c (both d f))))
