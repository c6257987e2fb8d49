mod Below
mod Heights
