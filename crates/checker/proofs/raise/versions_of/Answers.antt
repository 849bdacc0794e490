use Rattle.checker.proofs.Noted.{inside_at}
use Rattle.checker.proofs.raise.versions_of.Goals as goal

pub version_at-requires : goal.version_at-requires
version_at-requires c = inside_at _ c.notes.note-index c.args.notes.now _ c.requires c.notes-test.true
