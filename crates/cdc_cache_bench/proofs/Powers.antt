-- The powers of two that are numbers of words and of sets here.
use Rattle.std.proofs.Common.{refl}
use Rattle.std.specs.Int.{IsPowerOfTwo}

pub four : IsPowerOfTwo 4
four = (2, refl)

pub eight : IsPowerOfTwo 8
eight = (3, refl)
