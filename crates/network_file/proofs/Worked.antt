-- The worked example of document 01, computed by the rules. Assumes nothing.
use mathlib.Core.Path.{◌≡◌, refl}
use Rattle.refusals.specs.Refusals.{given, pass}
use Rattle.numbers.specs.Numbers.{number_in, bytes_of}
use Rattle.words.specs.Word.{bit_of, word_of}
use Rattle.network.specs.Checks.{bad_count, bad_cycle, bad_frames, bad_range, bad_least, bad_closed, link_check, links_check, network_check}
use Rattle.records.specs.Reading.{size_in, needed, value_in, values_in, stray_bits, restated, read_mapped, read_record}
use Rattle.records.specs.Layout.{is_bit, stands}
use Rattle.records.specs.Writing.{is_written, written_at, map_of, field_of, body_of, record_of}
use Rattle.network_file.specs.Example.{example, example_bytes, ExampleImage, ExampleReads}
use Rattle.network_file.specs.Writing.{link_bytes, links_bytes, image_of}
use Rattle.network_file.specs.Reading.{read_link, read_links, read_network}
use Rattle.network_file.specs.Fields.{link_layout, values_of, link_of}

-- it passes its checks
pub example_passes : network_check example ≡ given pass
unfolding example network_check bad_count bad_cycle links_check link_check bad_frames bad_range bad_least bad_closed
example_passes = refl

-- THE FILE OF THE EXAMPLE IS 30 00 02 00 03 08 02
pub example_image : ExampleImage
unfolding example example_bytes image_of bytes_of links_bytes link_bytes link_layout values_of record_of map_of written_at word_of body_of field_of is_written
example_image = refl

-- AND READS AS IT
pub example_reads : ExampleReads
unfolding example example_bytes read_network number_in bad_count bad_cycle read_links read_link read_record read_mapped needed size_in stands stray_bits is_bit word_of bit_of restated values_in value_in link_layout link_of link_check bad_frames bad_range bad_least bad_closed
example_reads = refl
