-- The answers of a catalog as entries.
use Rattle.catalog.specs.Contents.{Entry, listed, free, unknown}
use Rattle.catalog.specs.declared.catalog.FileEntry.{FileEntry}
use Rattle.catalog.specs.declared.catalog.FileEntry.TheVariants as answer

abbrev pub seen_entry : FileEntry → Entry
seen_entry (answer.Listed fields) = listed fields.now
seen_entry answer.Free = free
seen_entry answer.Unknown = unknown
