-- A run that fails ends with 1 or 2.
use Rattle.std.proofs.Common.{arith, ◌≤◌}
use Rattle.hb_command.specs.Failures.{status_of}
use Rattle.hb_command.specs.declared.failure.Kind.{Kind}
use Rattle.hb_command.specs.declared.failure.Kind.TheVariants.{Arguments, Input, Template, Rendering, Output, OutOfMemory}

pub status-most : (k : Kind) → status_of k ≤ 2
status-most Arguments = omega arith
status-most Input = omega arith
status-most Template = omega arith
status-most Rendering = omega arith
status-most Output = omega arith
status-most OutOfMemory = omega arith
