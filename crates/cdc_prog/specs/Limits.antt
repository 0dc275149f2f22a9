-- The limits of a program.
use Rattle.std.specs.Prelude.{ℕ}
use Rattle.cdc_prog.specs.declared.program.Kind.{Kind}
use Rattle.cdc_prog.specs.declared.program.Kind.TheVariants as kind

-- bytes of a source; units; dummies of a unit; private names of a DOALL; objects and words of memory; sites; call paths
abbrev pub limit : Kind → ℕ
limit kind.Source = 262144
limit kind.Units = 64
limit kind.Dummies = 32
limit kind.Privates = 32
limit kind.Objects = 1024
limit kind.Words = 4194304
limit kind.Sites = 16384
limit kind.Paths = 4096
