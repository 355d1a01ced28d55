-- Bytes of registers, in the map's order. Assumes nothing.
use Rattle.claims_registers.specs.Bytes.{BytesBack}
use Rattle.claims_registers.proofs.OwnBytes.{qsmcr, interrupts, directions}
use Rattle.claims_registers.proofs.SerialBytes.{sccr0, sccr1}
use Rattle.claims_registers.proofs.QueueBytes.{spcr0, spcr1, spcr2_back}

pub bytes_back : BytesBack
bytes_back m f v =
    (qsmcr m f v, (interrupts m f v, (sccr0 m f v, (sccr1 m f v, (directions m f v, (spcr0 m f v, (spcr1 m f v, (spcr2_back m f v, tt))))))))
