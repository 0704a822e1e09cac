-- All rows of the table of reports agree, by a test that antt computes. Its unfolding line names each definition that this goes through.
use mathlib.Core.Path.{refl}
use lib.Dec.{T}
use Rattle.format.specs.Limits.{image_least, image_most, level_most, rank_most, objects_most, blocks_most, name_most, path_most}
use Rattle.format.specs.Bytes.{all_hold, little_endian, to_bytes, to_words, undefined_address, same_bytes, contains}
use Rattle.format.specs.Blocks.{overlaps, overlaps_any, first_met, entry_answer, room_of, owner_after, last_owner, block_words}
use Rattle.format.specs.Result as results
use Rattle.format.specs.Walk.{blank_count, shown, ◌>>=◌, run}
use Rattle.format.specs.Superblock.{signature, version_shift, versions_read, sizes_read, addresses_read}
use Rattle.format.specs.Superblock.{superblock_read, superblock_sound, superblock_fields, open_image, superblock_walk}
use Rattle.format.specs.Header.{messages, continuations, header_contents, header_messages, has_counts, object_of, header_with, header_walk}
use Rattle.format.specs.Message.{treatment, read_message, of_type, the_message}
use Rattle.format.specs.FreeList.{free_blocks, free_list}
use Rattle.format.specs.Heap.{HEAP, heap_walk}
use Rattle.format.specs.Names.{before_nul, string_at, key_text, is_name, name_text, value_text, fault_number, below, within}
use Rattle.format.specs.Entry.{read_value, read_entry}
use Rattle.format.specs.Symbols.{SNOD, entries, symbol_walk}
use Rattle.format.specs.Tree.{TREE, keys_walk, children, node_walk, branches, subtree, tree_walk, group_walk}
use Rattle.format.specs.Dataspace.{product, read_dataspace}
use Rattle.format.specs.Datatype.{read_datatype, read_shared}
use Rattle.format.specs.Layout.{read_contiguous, read_layout}
use Rattle.format.specs.Dataset.{data_walk, read_type, storage_walk, dataset_walk}
use Rattle.format.specs.Attribute.{read_shared_part, read_attribute}
use Rattle.format.specs.Ledger.{in_ledger, add_link, count_link, discover}
use Rattle.format.specs.Sharing.{place_of, share, share_each, discover_sharing, not_committed}
use Rattle.format.specs.Object.{sharing_dataset, content_walk, object_walk}
use Rattle.format.specs.Audit.{objects_walk, audit_walk, audit_run, counted_in}
use Rattle.format.specs.Path.{path_parts, is_component, all_components, parse_path}
use Rattle.format.specs.Lookup.{compare_name, find_walk, target_walk, component_walk, follow, locate_walk, lookup_run}
use Rattle.format.specs.Describe.{dataset_of, describe_walk, describe_run}
use Rattle.format.specs.Front.{word_bytes, object_words}
use Rattle.format.specs.Report.{holds_byte, holding, report, c_report}
use Rattle.cases.specs.Reported.{report_table}
use Rattle.cases.proofs.Agree.{agree, agree-equal}
use Rattle.cases.proofs.report_rows.Goals as goal

all-agree : T (agree report_table)
unfolding to_words image_least image_most level_most rank_most objects_most blocks_most name_most path_most all_hold little_endian to_bytes undefined_address
    same_bytes contains overlaps overlaps_any first_met entry_answer room_of blank_count shown results.◌>>=◌ ◌>>=◌ run signature version_shift versions_read
    sizes_read addresses_read superblock_read superblock_sound superblock_fields open_image superblock_walk treatment read_message messages of_type
    the_message continuations header_contents header_messages has_counts object_of header_with header_walk HEAP free_blocks free_list heap_walk before_nul
    string_at key_text is_name name_text value_text fault_number below within SNOD read_value read_entry entries
    symbol_walk TREE keys_walk children node_walk branches
    subtree tree_walk group_walk product read_dataspace read_datatype read_shared read_contiguous read_layout data_walk read_type storage_walk dataset_walk
    read_shared_part read_attribute place_of share share_each discover_sharing not_committed sharing_dataset in_ledger add_link count_link
    discover content_walk object_walk objects_walk audit_walk audit_run
    path_parts is_component all_components parse_path compare_name find_walk target_walk component_walk follow
    locate_walk lookup_run dataset_of describe_walk describe_run
    owner_after last_owner block_words counted_in word_bytes object_words holds_byte holding report c_report report_table
all-agree = tt

pub returns : goal.returns
unfolding report_table
returns c = record {
  all = refl;
  answered = agree-equal report_table all-agree;
}
