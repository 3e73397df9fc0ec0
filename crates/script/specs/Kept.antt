-- The bytes of the records that are kept.
use Rattle.std.specs.Prelude.{ℕ, List}
use Rattle.script.specs.declared.records.Records.{Records}

abbrev pub kept : Records → List ℕ
kept r = r.bytes.items
