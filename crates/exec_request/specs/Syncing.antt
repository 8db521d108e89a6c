-- How durable a write is, and how far.
use Rattle.std.specs.Prelude.{Bool, true, false}
use Rattle.exec_outcomes.specs.declared.outcome.Kind.{Kind, Kind as kind}
use Rattle.exec_request.specs.declared.write_at.WriteAtState.{WriteAtState, TheVariants.{Writing, WritingSync, WritingBeforeSync, Syncing}}

-- the kind of a write
abbrev pub write_kind : WriteAtState → Kind
write_kind Writing = kind.Write
write_kind WritingSync = kind.Dsync
write_kind WritingBeforeSync = kind.Many
write_kind Syncing = kind.Many

-- its trailing sync has begun
abbrev pub is_syncing : WriteAtState → Bool
is_syncing Syncing = true
is_syncing _ = false

abbrev pub is_dsync : WriteAtState → Bool
is_dsync WritingSync = true
is_dsync _ = false
