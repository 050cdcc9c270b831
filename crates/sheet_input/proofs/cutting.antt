mod Laws
mod LineLaws
