-- The powers of two that are numbers of words and of sets here.
use Rattle.std.proofs.Common.{refl}
use Rattle.std.specs.Int.{IsPowerOfTwo}

pub one : IsPowerOfTwo 1
one = (0, refl)

pub two : IsPowerOfTwo 2
two = (1, refl)

pub four : IsPowerOfTwo 4
four = (2, refl)
