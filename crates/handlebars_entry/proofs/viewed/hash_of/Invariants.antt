use Rattle.std.proofs.Common.{◌≡◌, ◌++◌}
use Rattle.handlebars_entry.proofs.ArgumentsViewed.{data_of_argument, data_passed, seen}
use Rattle.handlebars_entry.proofs.viewed.hash_of.Given as goal

-- the hash arguments so far, followed by those that are left
abbrev pub invariant-hash : goal.invariant-hash
invariant-hash l = seen data_of_argument l.arguments.entries ++ seen data_passed l.key-iterator ≡ seen data_passed l.hash.entries
