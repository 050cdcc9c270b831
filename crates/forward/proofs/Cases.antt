-- The worked requests are met: so the call's promise is due, and is not empty. Every definition that is computed is named.
-- Assumes nothing.
use mathlib.Core.Path.{◌≡◌, refl}
use mathlib.Core.Bool.{true}
use Rattle.chain_rules.specs.chain.Lists.{all_of}
use Rattle.scanner.specs.scan.Number as ScanNumber
use Rattle.scanner.specs.scan.Part as ScanPart
use Rattle.writer.specs.emit.Text as EmitText
use Rattle.group_table.specs.groups.Groups as GroupsGroups
use Rattle.chain_record.specs.plain.Chain as RecordChain
use Rattle.token_syntax.specs.form.Form as FormForm
use Rattle.token_syntax.specs.form.Numbers as FormNumbers
use Rattle.token_syntax.specs.form.Parts as FormParts
use Rattle.token_head.specs.positions.Each as PositionsEach
use Rattle.token_head.specs.positions.Positions as PositionsPositions
use Rattle.token_features.specs.features.Features as FeaturesFeatures
use Rattle.token_segments.specs.ring.Ring as RingRing
use Rattle.token_segments.specs.segment.Segment as SegmentSegment
use Rattle.token_head.specs.opening.Opening as OpeningOpening
use Rattle.token_reader.specs.seats.Seats as SeatsSeats
use Rattle.token_reader.specs.token.Request as TokenRequest
use Rattle.token_reader.specs.token.Token as TokenToken
use Rattle.chain_rules.specs.chain.Bonds as ChainBonds
use Rattle.chain_rules.specs.chain.Counts as ChainCounts
use Rattle.chain_rules.specs.chain.Drawing as ChainDrawing
use Rattle.chain_rules.specs.chain.Features as ChainFeatures
use Rattle.chain_rules.specs.chain.Lists as ChainLists
use Rattle.chain_rules.specs.chain.Refusals as ChainRefusals
use Rattle.reading_rules.specs.reading.Ascii as ReadingAscii
use Rattle.reading_rules.specs.reading.Blocks as ReadingBlocks
use Rattle.reading_rules.specs.reading.Chain as ReadingChain
use Rattle.reading_rules.specs.reading.Lexer as ReadingLexer
use Rattle.reading_rules.specs.reading.Machine as ReadingMachine
use Rattle.reading_rules.specs.reading.Molecule as ReadingMolecule
use Rattle.reading_rules.specs.reading.Names as ReadingNames
use Rattle.reading_rules.specs.reading.Numeral as ReadingNumeral
use Rattle.reading_rules.specs.reading.Part as ReadingPart
use Rattle.reading_rules.specs.reading.Parting as ReadingParting
use Rattle.reading_rules.specs.reading.Piece as ReadingPiece
use Rattle.reading_rules.specs.reading.Show as ReadingShow
use Rattle.reading_rules.specs.reading.Template as ReadingTemplate
use Rattle.tail_grammar.specs.tail.Grammar as TailGrammar
use Rattle.template_rules.specs.Drawn as TemplateDrawn
use Rattle.template_rules.specs.Written as TemplateWritten
use Rattle.template_rules.specs.Template as TemplateTemplate
use Rattle.class_rules.specs.class.Class as ClassClass
use Rattle.judge.specs.Verdict as JudgeVerdict
use Rattle.forward.specs.Cases.{one_sum, same_sites, holds, met, cases}

pub worked : all_of met cases ≡ true
unfolding met cases holds one_sum same_sites ScanNumber.after_plus ScanNumber.all_digits ScanNumber.checked ScanNumber.digits_up_to ScanNumber.is_digit ScanNumber.number_up_to ScanNumber.value_from ScanPart.ending ScanPart.ending_after ScanPart.first_byte ScanPart.index_of_text ScanPart.same_bytes ScanPart.starts_with ScanPart.trimmed EmitText.decimal EmitText.digits GroupsGroups.alias_ring_size GroupsGroups.entries GroupsGroups.entry_at GroupsGroups.lookup_from GroupsGroups.substituent_of RecordChain.counts_of RecordChain.with_bond RecordChain.with_group RecordChain.with_oxygens RecordChain.with_ring RecordChain.with_unlocated FormForm.after_opening FormForm.before_closing FormForm.ends_in_parenthesis FormForm.form_of FormForm.group_form FormForm.segment_text FormForm.span_form FormNumbers.leading_position FormNumbers.number_or_one FormNumbers.ring_count FormNumbers.trimmed_number FormParts.list_parts FormParts.parts_at PositionsEach.each PositionsPositions.bond_at PositionsPositions.bond_list PositionsPositions.geometry_of PositionsPositions.numbered PositionsPositions.position_of PositionsPositions.ring_bond_at PositionsPositions.ring_bond_list FeaturesFeatures.bridge_of FeaturesFeatures.feature_of FeaturesFeatures.item_at FeaturesFeatures.listed_as FeaturesFeatures.oxygen_count FeaturesFeatures.oxygens_in FeaturesFeatures.part_of FeaturesFeatures.repeated_of FeaturesFeatures.ring_at FeaturesFeatures.ring_of RingRing.closed_or11 RingRing.ring_bonds RingRing.ring_list RingRing.ring_listed RingRing.ring_segment RingRing.ring_sized SegmentSegment.comma_parts SegmentSegment.copies SegmentSegment.listed_at SegmentSegment.listed_segment SegmentSegment.many_times SegmentSegment.modification SegmentSegment.part_at SegmentSegment.plain_list SegmentSegment.segment_at SegmentSegment.segments OpeningOpening.before_digit OpeningOpening.branch_of OpeningOpening.branched OpeningOpening.carbons_of OpeningOpening.opening_of OpeningOpening.prefix_of OpeningOpening.sphingoid_of SeatsSeats.also SeatsSeats.among SeatsSeats.first_free SeatsSeats.first_start SeatsSeats.free SeatsSeats.positions SeatsSeats.seat_from SeatsSeats.seated SeatsSeats.seats_from TokenRequest.tokens_from TokenRequest.tokens_of TokenToken.after_count TokenToken.all_printable TokenToken.bare_oxygens TokenToken.bonds_of TokenToken.counted_list TokenToken.listed_of TokenToken.missing_of TokenToken.named_chain TokenToken.printable TokenToken.rest_of TokenToken.token_of TokenToken.trimmed_of ChainBonds.bond_at ChainBonds.bonds_of ChainBonds.close_mark ChainBonds.geometry_at ChainBonds.mark_bond ChainBonds.mark_from ChainBonds.mark_of ChainBonds.open_mark ChainBonds.opens_down ChainBonds.plain_bond ChainBonds.plain_bonds ChainCounts.copies ChainDrawing.atoms_end ChainDrawing.branch_part ChainDrawing.branches ChainDrawing.carbon_at ChainDrawing.carbon_atoms ChainDrawing.carbons ChainDrawing.carbonyl ChainDrawing.chain_drawn ChainDrawing.flexible ChainDrawing.flexible_atom ChainDrawing.floats ChainDrawing.groups_at ChainDrawing.literal ChainDrawing.mark_list ChainDrawing.marks ChainDrawing.pairs ChainDrawing.ring_pairs ChainDrawing.site_atoms ChainDrawing.site_lists ChainDrawing.sites ChainDrawing.sums ChainDrawing.variables ChainFeatures.alkenyl_bond ChainFeatures.base_oxygens ChainFeatures.doubles ChainFeatures.drawn_count ChainFeatures.flexible_count ChainFeatures.floating ChainFeatures.groups_on ChainFeatures.is_acyl ChainFeatures.literal_end ChainFeatures.located ChainFeatures.oxygen_at ChainFeatures.pins ChainFeatures.prefix_end ChainFeatures.remaining ChainFeatures.site_skip ChainFeatures.triol_oxygen ChainFeatures.unlocated ChainLists.all_of ChainLists.any_of ChainLists.any_two ChainLists.is_empty ChainLists.largest ChainLists.only ChainLists.values_from ChainRefusals.clashes ChainRefusals.double_off ChainRefusals.draw_refusal ChainRefusals.epoxide_on ChainRefusals.group_off ChainRefusals.group_on_carbonyl ChainRefusals.no_site ChainRefusals.off_chain ChainRefusals.pin_too_far ChainRefusals.place_refusal ChainRefusals.ring_off ChainRefusals.same_bond ChainRefusals.same_ring ChainRefusals.small_ring ChainRefusals.tail_too_short ChainRefusals.wrong_kind ReadingAscii.ascii ReadingBlocks.mark_of ReadingChain.atom_from ReadingChain.atom_of ReadingChain.bridge_end ReadingChain.bridge_last ReadingChain.bridge_pieces ReadingChain.bridge_rows ReadingChain.carbon_end ReadingChain.carbon_last ReadingChain.carbon_members ReadingChain.chain_end ReadingChain.chain_last ReadingChain.chain_pieces ReadingChain.chain_members ReadingChain.float_end ReadingChain.float_last ReadingChain.float_pieces ReadingChain.float_members ReadingChain.rows_of ReadingChain.others ReadingChain.labels_at ReadingChain.mark_pieces ReadingChain.part_pieces ReadingChain.part_rows ReadingChain.parts_end ReadingChain.ring_links ReadingLexer.before ReadingLexer.begin ReadingLexer.bracketed ReadingLexer.ended ReadingLexer.feed ReadingLexer.lex ReadingLexer.marks ReadingLexer.memb ReadingLexer.on_fed ReadingLexer.organic ReadingLexer.pairs ReadingLexer.pieces_of ReadingLexer.second ReadingLexer.within ReadingMachine.among ReadingMachine.and_labels ReadingMachine.and_then ReadingMachine.close ReadingMachine.found ReadingMachine.joins ReadingMachine.label ReadingMachine.labels ReadingMachine.lookup ReadingMachine.placed ReadingMachine.plainly ReadingMachine.prepend ReadingMachine.remove ReadingMachine.run ReadingMachine.step ReadingMachine.whole ReadingMolecule.atoms_of ReadingMolecule.before ReadingMolecule.bond_key ReadingMolecule.bonds_from ReadingMolecule.bonds_of ReadingMolecule.bonds_to ReadingMolecule.insert ReadingMolecule.look ReadingMolecule.notes_of ReadingMolecule.set_of ReadingNames.name_below ReadingNames.name_of ReadingNames.small ReadingNames.variable ReadingNumeral.leads ReadingNumeral.number ReadingNumeral.value_of ReadingPart.alone ReadingPart.hung ReadingPart.part_lexed ReadingPart.part_of ReadingPart.part_read ReadingParting.each ReadingParting.follows ReadingParting.joined ReadingParting.led ReadingParting.on_first ReadingParting.parted ReadingPiece.show ReadingPiece.show_label ReadingPiece.show_labels ReadingPiece.show_piece ReadingShow.block_texts ReadingShow.entries ReadingShow.label_block ReadingShow.label_blocks ReadingShow.show_blocks ReadingShow.show_entry ReadingShow.show_label ReadingShow.show_line ReadingShow.show_mark ReadingShow.show_sites ReadingShow.show_sum ReadingShow.show_swap ReadingShow.show_trailer ReadingShow.swap_texts ReadingShow.trailer_texts ReadingShow.up_to_last ReadingTemplate.draw ReadingTemplate.members ReadingTemplate.draw_chain ReadingTemplate.draw_part ReadingTemplate.item_pieces ReadingTemplate.next_label ReadingTemplate.template_pieces TailGrammar.atom_begins TailGrammar.bond_or_atom TailGrammar.bonded TailGrammar.bracket_on TailGrammar.branch_closes TailGrammar.branch_opens TailGrammar.clashes TailGrammar.digit_or TailGrammar.done TailGrammar.finished TailGrammar.goes_on TailGrammar.is_tail TailGrammar.none_open TailGrammar.scan TailGrammar.step TailGrammar.atoms_of_tail TailGrammar.with_digit TemplateWritten.all_indices TemplateDrawn.all_items TemplateDrawn.all_marks TemplateDrawn.all_sites TemplateDrawn.all_sums TemplateDrawn.atoms_of_piece TemplateDrawn.atoms_of_pieces TemplateDrawn.by_sn TemplateDrawn.chain_at TemplateDrawn.fixed_pieces TemplateWritten.index_of TemplateWritten.indices_of TemplateDrawn.insert_by_sn TemplateDrawn.items_of TemplateDrawn.labels TemplateWritten.line_of TemplateDrawn.nonempty TemplateDrawn.placed TemplateDrawn.placed_from TemplateDrawn.slot_oxygen TemplateDrawn.sn_sites TemplateDrawn.tail_part TemplateWritten.text_of ClassClass.class_of TemplateTemplate.elements TemplateTemplate.glycerol JudgeVerdict.fault_at JudgeVerdict.first_of JudgeVerdict.judge_chains JudgeVerdict.judge_drawn JudgeVerdict.judge_tokens JudgeVerdict.kind_refusal JudgeVerdict.verdict JudgeVerdict.wrong_count JudgeVerdict.wrong_tail
worked = refl
