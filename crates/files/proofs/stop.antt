-- Laws that the functions of the module cite.
mod Laws
