-- The entries that a table has pending.
use Rattle.std.specs.Prelude.{List, take}
use Rattle.server.specs.declared.entry.Entry.{Entry}
use Rattle.server.specs.declared.pending.Pending.{Pending}

abbrev pub pending_of : Pending → List Entry
pending_of p = take p.count p.entries
