mod Clocked
mod Printed
mod Agreed
mod Refusing
