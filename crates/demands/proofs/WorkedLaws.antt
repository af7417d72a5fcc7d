-- The whole case and the worked table hold: both sides of each row compute to the same. Assumes nothing.
use mathlib.Core.Path.{refl}
use lib.Dec.{leb-zero}
use lib.ListN.{length}
use borrow.Author.Tests.{le-leb}
use Rattle.lists.specs.Lists.{total, span}
use Rattle.lists.specs.Splice.{splice}
use Rattle.names.specs.Bytes.{is_package, is_type_name, is_file_name, is_printable}
use Rattle.names.specs.Default.{default_of}
use Rattle.names.specs.Package.{rest_beneath}
use Rattle.names.specs.Types.{type_of}
use Rattle.names.proofs.WorkedLaws.{name_rows}
use Rattle.image.specs.Schema.{schema_of}
use Rattle.image.specs.Layout.{trailer_fits, follows, sections_follow, file_ranges_fit, frame_fits, rows_fit, all_rows_fit, owned_once, parents_lower, all_owned, laid_out, laid_out_within_limit}
use Rattle.image.specs.Limits.{counts_within, type_name_short, default_short, row_texts_short, kind_texts_short, texts_short, within_limits}
use Rattle.image.specs.Texts.{type_name_right, extendee_right, default_right, row_texts_right, kind_texts_right, texts_right}
use Rattle.image.specs.Flat.{preorder, flat_messages, flat_fields, within}
use Rattle.image.specs.Links.{links_of}
use Rattle.image.specs.FullName.{full_name, full_names_short, shares_name}
use Rattle.image.specs.Lookup.{message_by_path, enum_by_path}
use Rattle.image.specs.MapEntry.{entry_lines}
use Rattle.image.specs.Values.{value_by_number, value_by_name}
use Rattle.image.specs.Record.{containers}
use Rattle.image.specs.LinkTests.{file_by, messages_given, others_given, mark_fits, marks_fit, extendee_fits, target_fits, value_fits, default_fits, field_link_fits, field_links_fit, links_fit}
use Rattle.image.specs.Shelf.{record_fits, clash_free, image_obeys, file_named, imports_named, file_fits, files_of, shelved, well_formed}
use Rattle.image.specs.Judge.{opening_lines, naming_lines}
use Rattle.link.specs.Search.{publics_to, searched}
use Rattle.link.specs.Resolve.{item_in, target, type_target}
use Rattle.link.specs.Field.{default_read, field_lines, field_words}
use Rattle.link.specs.Marks.{message_refers, own_cause, graph_of}
use Rattle.link.specs.Chain.{distance}
use Rattle.link.specs.Rows.{field_links, all_links}
use Rattle.link.specs.Refusals.{word_limit, byte_limit, length_lines, shelf_lines, name_lines, import_lines, all_field_lines, room_lines, table}
use Rattle.link.specs.Link.{linked}
use Rattle.link.specs.Lookup.{value_numbered, value_named, shelf_verdict, opened_file, looked_up}
use Rattle.demands.specs.Worked.{WholeCase, WholeByRows, WorkedTable}

-- ---- what the rows compute with. To unfold one of these is to unfold all that its line names

texts : Unit {0}
unfolding is_package is_type_name is_file_name is_printable default_of rest_beneath type_of
texts = tt

layout : Unit {0}
unfolding schema_of trailer_fits follows sections_follow file_ranges_fit frame_fits rows_fit all_rows_fit owned_once parents_lower all_owned laid_out laid_out_within_limit
layout = tt

limits : Unit {0}
unfolding counts_within type_name_short default_short row_texts_short kind_texts_short texts_short within_limits
limits = tt

byte_rules : Unit {0}
unfolding type_name_right extendee_right default_right row_texts_right kind_texts_right texts_right
byte_rules = tt

flat_order : Unit {0}
unfolding total span preorder flat_messages flat_fields within links_of full_name full_names_short shares_name message_by_path enum_by_path entry_lines
flat_order = tt

link_words_lem : Unit {0}
unfolding file_by containers messages_given others_given mark_fits marks_fit extendee_fits target_fits value_fits default_fits field_link_fits field_links_fit links_fit
link_words_lem = tt

shelf : Unit {0}
unfolding record_fits clash_free image_obeys file_named imports_named file_fits files_of shelved well_formed
shelf = tt

fields : Unit {0}
unfolding publics_to searched item_in target type_target default_read field_lines field_words field_links
fields = tt

marks : Unit {0}
unfolding message_refers own_cause graph_of distance all_links
marks = tt

refusals : Unit {0}
unfolding opening_lines naming_lines length_lines shelf_lines name_lines import_lines all_field_lines room_lines table splice linked
refusals = tt

lookups : Unit {0}
unfolding value_by_number value_by_name value_numbered value_named shelf_verdict opened_file looked_up
lookups = tt

computed : Unit {0}
unfolding texts layout limits byte_rules flat_order link_words_lem shelf fields marks refusals lookups
computed = tt

-- ---- the theorems

pub whole_case : WholeCase
unfolding computed
whole_case words bytes least-words most-words least-bytes most_bytes =
    rw (
      le-leb (length words) word_limit most-words,
      le-leb (length bytes) byte_limit most_bytes,
      leb-zero (length words),
      leb-zero (length bytes),
      le-leb 56 (length words) least-words,
      le-leb 2 (length bytes) least-bytes,
    )

pub whole_by-rows : WholeByRows
whole_by-rows = refl

pub worked_table : WorkedTable
unfolding computed
worked_table = (name_rows, (refl, refl, refl, refl, refl, refl), (refl, refl), (refl, refl, refl, refl, refl, refl))
