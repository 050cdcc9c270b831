use Rattle.class_templates.proofs.Classes.{fill-fa, fill-gl1, fill-gl2, fill-gl3, tail-gp, fill-gp, fill-cl, tail-sb, fill-sb, tail-sa, fill-sa, class-fa, class-gl1, class-gl2, class-gl3, class-gp, class-cl, class-sb, class-sa}
use Rattle.class_templates.proofs.class_smiles.Goals as goal

pub fa_smiles-requires : goal.fa_smiles-requires
fa_smiles-requires c = search fill-fa

pub glycerolipid_smiles-requires : goal.glycerolipid_smiles-requires
glycerolipid_smiles-requires c = search fill-gl1

pub glycerolipid_smiles-requires-in-Gl2 : goal.glycerolipid_smiles-requires-in-Gl2
glycerolipid_smiles-requires-in-Gl2 c = search fill-gl2

pub glycerolipid_smiles-requires-in-Gl3 : goal.glycerolipid_smiles-requires-in-Gl3
glycerolipid_smiles-requires-in-Gl3 c = search fill-gl3

pub gpl_smiles-requires : goal.gpl_smiles-requires
gpl_smiles-requires c = search (tail-gp, fill-gp)

pub cl_smiles-requires : goal.cl_smiles-requires
cl_smiles-requires c = search fill-cl

pub sphingoid_smiles-requires : goal.sphingoid_smiles-requires
sphingoid_smiles-requires c = search (tail-sb, fill-sb)

pub acyl_sphingoid_smiles-requires : goal.acyl_sphingoid_smiles-requires
acyl_sphingoid_smiles-requires c = search (tail-sa, fill-sa)

pub returns-in-Fa : goal.returns-in-Fa
returns-in-Fa c = search class-fa

pub returns-in-Gl1 : goal.returns-in-Gl1
returns-in-Gl1 c = search class-gl1

pub returns-in-Gl2 : goal.returns-in-Gl2
returns-in-Gl2 c = search class-gl2

pub returns-in-Gl3 : goal.returns-in-Gl3
returns-in-Gl3 c = search class-gl3

pub returns-in-Gp : goal.returns-in-Gp
returns-in-Gp c = search class-gp

pub returns-in-Cl : goal.returns-in-Cl
returns-in-Cl c = search class-cl

pub returns-in-Sb : goal.returns-in-Sb
returns-in-Sb c = search class-sb

pub returns-in-Sa : goal.returns-in-Sa
returns-in-Sa c = search class-sa
